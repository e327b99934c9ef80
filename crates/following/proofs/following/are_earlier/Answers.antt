-- The loop keeps that the hints so far are earlier steps. Assumes nothing.
use mathlib.Core.Path.{◌≡◌, sym, ap, ◌∙◌}
use native.Mathlib.Omega.{arith}
use Prim.Native.Nat.{ℕ, ◌+◌, ◌*◌}
use Rattle.bits.proofs.Below.{every_stop}
use lib.ListN.{length}
use Rattle.clauses.specs.Step.{four, hint_at}
use Rattle.following.specs.Standing.{begun_in}
use Rattle.following.proofs.following.are_earlier.Goals as goal

pub returns-then-not-is_marked : goal.returns-then-not-is_marked
returns-then-not-is_marked c =
    sym (every_stop c.args.many (λ k. begun_in c.args.all (length c.args.c.now) c.args.work.now (hint_at c.args.c.now c.args.at k)) c.loop-k.k (omega arith) (sym (ap (begun_in c.args.all (length c.args.c.now) c.args.work.now) (let z : c.four_at-h.result ≡ hint_at c.args.c.now c.args.at c.loop-k.k = c.four_at-h.ensures.0 ∙ ap (λ (i : ℕ). four c.args.c.now (c.args.at + 7 + 4 * i + 4 * c.loop-k.k)) c.requires.0 in z)) ∙ sym c.is_marked.ensures ∙ c.if-not-is_marked.true))
