-- Known bytes of a reader and of a writer, over one read or write after another.
use Rattle.std.proofs.Common.{◌≡◌, ◌≤◌, ℕ, ◌+◌, List, ◌++◌, Some, None, length, take, sym, ap, ◌∙◌, append_assoc, length-take-le}
use lib.Seq.{take-append-le}
use Rattle.std.proofs.Math.Seq.{take-append-add}
use Rattle.std.specs.declared.option.Option.{Option}
use Rattle.std.specs.Io.KnownBytes.{Consumes, Appends}

pub Consumes-then : (a b c : Option (List ℕ)) (bs cs : List ℕ) → Consumes a b bs → Consumes b c cs → Consumes a c (bs ++ cs)
Consumes-then None b c bs cs p q = tt
Consumes-then (Some x) None c bs cs p q = absurd p
Consumes-then (Some x) (Some y) None bs cs p q = absurd q
Consumes-then (Some x) (Some y) (Some z) bs cs p q = p ∙ ap (λ l. bs ++ l) q ∙ sym (append_assoc bs cs z)

pub Appends-then : (a b c : Option (List ℕ)) (bs cs : List ℕ) → Appends a b bs → Appends b c cs → Appends a c (bs ++ cs)
Appends-then None b c bs cs p q = tt
Appends-then (Some x) None c bs cs p q = absurd p
Appends-then (Some x) (Some y) None bs cs p q = absurd q
Appends-then (Some x) (Some y) (Some z) bs cs p q = q ∙ ap (λ l. l ++ cs) p ∙ append_assoc x bs cs

-- n bytes were read into a part behind the first `got` of a room
pub taken_behind : (got n : ℕ) (room part rest : List ℕ) → got ≤ length room → n ≤ length part
    → take (got + n) (take got room ++ (part ++ rest)) ≡ take got room ++ take n part
taken_behind got n room part rest within fits =
    ap (λ k. take (k + n) (take got room ++ (part ++ rest))) (sym (length-take-le got room within))
    ∙ take-append-add (take got room) (part ++ rest) n ∙ ap (λ l. take got room ++ l) (take-append-le n part rest fits)
