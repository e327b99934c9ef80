-- The loop keeps that no assignment of the words passed differs. Assumes nothing.
use Rattle.std.proofs.Common.{ℕ, ◌+◌, ◌*◌, ◌^◌, Some, ap, ◌∙◌, arith}
use native.Mathlib.Decide.{dec_lt}
use Rattle.bits.proofs.Least.{least-of}
use Rattle.bits.proofs.Places.{found_some, found_none}
use Rattle.runs.specs.Checking.{differs, first_difference}
use Rattle.runs.proofs.Differences.{word_there, word_begins, words_end, same_word, apart-word}
use Rattle.runs.proofs.checking.first_difference.Goals as goal

pub sheet_word-given-requires : goal.sheet_word-given-requires
sheet_word-given-requires c = record {
  edition = c.requires.edition;
  w_bound = word_begins c.args.n c.loop-w.w (omega (arith, c.loop-w.invariant.0));
}

pub bits_from-asked-requires : goal.bits_from-asked-requires
bits_from-asked-requires c =
    let w = c.loop-w.w in
    word_there c.args.n c.args.t.now c.requires.t_len.0 (64 * w) (omega arith)
    (word_begins c.args.n w (omega (arith, c.loop-w.invariant.0)))

pub returns-then-given-asked : goal.returns-then-given-asked
returns-then-given-asked c =
    let a = c.args in
    let h = apart-word a.e a.n a.s.now a.m a.t.now c.requires.t_len.0 c.requires.t_len.1 c.loop-w.w
    c.sheet_word-given.result c.bits_from-asked.result
    c.sheet_word-given.ensures c.bits_from-asked.ensures c.if-given-asked.true (omega arith) c.loop-w.invariant.1 in
    ap (λ (i : ℕ). Some (64 * c.loop-w.w + i)) c.first_apart.ensures.0
    ∙ ap Some h.0
    ∙ found_some (2 ^ a.n) (first_difference a.e a.n a.s.now a.m a.t.now) (omega (arith, h.0, h.1))

pub loop-w-preserved : goal.loop-w-preserved
loop-w-preserved c =
    let a = c.args in
    let w = c.loop-w.w in
    let same = same_word a.e a.n a.s.now a.m a.t.now c.requires.t_len.0 c.requires.t_len.1 w
    c.sheet_word-given.result c.bits_from-asked.result
    c.sheet_word-given.ensures c.bits_from-asked.ensures c.if-given-asked.false in (
      c.loop-w.invariant.0,
      λ x h l. elim (dec_lt x (64 * w)) [ yes g ↦ c.loop-w.invariant.1 x g l | no g ↦ same x (omega arith) (omega arith) l ],
    )

pub returns : goal.returns
returns c =
    let a = c.args in
    let d = differs a.e a.n a.s.now a.m a.t.now in
    found_none (2 ^ a.n) (first_difference a.e a.n a.s.now a.m a.t.now)
    (omega (
      arith,
      least-of (2 ^ a.n) d (2 ^ a.n) (record {
        within = omega arith;
        before = λ x l. c.loop-w.invariant.1 x (omega (arith, c.loop-w.invariant.0, words_end a.n)) l;
        here = λ l. absurd (omega arith);
      }),
    ))
