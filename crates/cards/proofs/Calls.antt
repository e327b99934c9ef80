-- The isolation as the calls have it: whether a load is accepted does not depend on what is on the card, and every
-- mingling of the stores of accepted loads ends in the card that one call after another leaves. Assumes nothing.
use mathlib.Core.Path.{◌≡◌, refl, sym, ap, ap₂, ◌∙◌}
use mathlib.Core.Bool.{not}
use mathlib.Core.List.{List, [], ◌∷◌}
use Prim.Native.Nat.{ℕ, suc, ◌<◌}
use native.Mathlib.Omega.{arith}
use lib.Dec.{eqb}
use lib.ListN.{length, set, take}
use lib.Seq.{drop-cons, take-suc}
use Rattle.refusals.specs.Verdicts.{Refusal, Verdict, Fine, Refused}
use Rattle.refusals.specs.Lines.{line, verdict, reply}
use Rattle.refusals.proofs.Lines.{in_order_lem}
use Rattle.cards.specs.declared.stores.Store.{Store}
use Rattle.cards.specs.Card.{card_bytes}
use Rattle.cards.specs.Stores.{storing, stored, load_stores, store_count, store_at, cut_load, one_store}
use Rattle.cards.specs.Refusals.{bad_load, filed_lines}
use Rattle.cards.specs.LoadDesk.{load_lines, load_done, load_not, part_outcome}
use Rattle.cards.specs.Mingling.{Load, stores_of, stores_in_turn, waiting, Mingling, accepted, called}
use Rattle.cards.proofs.Making.{made_append, made_length}
use Rattle.cards.proofs.Order.{length_load}
use Rattle.cards.proofs.Mingled.{Numbered, mingled}
use Rattle.cards.proofs.Desks.{accepts}

-- of the card only its length is looked at
pub load_verdict : (c e : List ℕ) (d n : ℕ) (s : List ℕ) → length c ≡ length e → verdict (load_lines c d n s)
    ≡ verdict (load_lines e d n s)
load_verdict c e d n s q = ap (λ (l : ℕ). verdict (line 20 (not (eqb l card_bytes)) ∷ bad_load d s ∷ filed_lines d n s)) q

pub accepted-alike : (ls : List Load) (c e : List ℕ) → length c ≡ length e → accepted c ls ≡ accepted e ls
accepted-alike [] c e q = refl
accepted-alike (l ∷ ls) c e q =
    ap₂ (λ (v : Verdict) (r : List Load). reply v (l ∷ r) (λ (f : Refusal). r))
    (load_verdict c e l.desk l.inputs l.sheet q) (accepted-alike ls c e q)

-- what is accepted is for a desk that a card has
pub numbered : (ls : List Load) (c : List ℕ) → Numbered (accepted c ls)
numbered [] c = tt
numbered (l ∷ ls) c = go (verdict (load_lines c l.desk l.inputs l.sheet)) refl (numbered ls c)
  where
    go : (v : Verdict) → verdict (load_lines c l.desk l.inputs l.sheet) ≡ v → Numbered (accepted c ls)
        → Numbered (reply v (l ∷ accepted c ls) (λ r. accepted c ls))
    go Fine q ih = (
      (accepts c l.desk l.inputs l.sheet
          (in_order_lem (load_lines c l.desk l.inputs l.sheet) q)).least,
      ih,
    )
    go (Refused r) q ih = ih

-- one call after another makes the stores of those that are accepted, one after another
calls_made : (ls : List Load) (c : List ℕ) → called ls c ≡ stored (stores_in_turn (accepted c ls)) c
unfolding part_outcome
calls_made [] c = refl
calls_made (l ∷ ls) c = go (verdict (load_lines c l.desk l.inputs l.sheet)) (calls_made ls)
  where
    go : (v : Verdict) → ((e : List ℕ) → called ls e ≡ stored (stores_in_turn (accepted e ls)) e)
        → called ls (reply v (load_done (stores_of l) c) (load_not c)).card
        ≡ stored (stores_in_turn (reply v (l ∷ accepted c ls) (λ r. accepted c ls))) c
    go Fine ih =
        let e = stored (stores_of l) c in
        ih e ∙ ap (λ (r : List Load). stored (stores_in_turn r) e) (accepted-alike ls e c (made_length (stores_of l) c))
        ∙ sym (made_append (stores_of l) (stores_in_turn (accepted c ls)) c)
    go (Refused r) ih = ih c

pub mingled_calls : (ls : List Load) (c : List ℕ) (w : List Store) → Mingling (waiting (accepted c ls)) w → stored w c
    ≡ called ls c
mingled_calls ls c w m = mingled (accepted c ls) (numbered ls c) w m c ∙ sym (calls_made ls c)

-- store i of a load alone is one byte
pub one_byte : (d n : ℕ) (s c : List ℕ) (i : ℕ) → i < store_count → stored (one_store i d n s) c
    ≡ set c (store_at d n s i).place (store_at d n s i).byte
one_byte d n s c i h = ap (λ (u : List Store). stored (take 1 u) c)
    (drop-cons (load_stores d n s) i (storing 0 0) (omega (arith, length_load d n s)))

-- the order of the stores: each beginning of a load is the one before it and the next store
pub cut_next : (d n : ℕ) (s c : List ℕ) (k : ℕ) → k < store_count
    → stored (cut_load (suc k) d n s) c ≡ set (stored (cut_load k d n s) c) (store_at d n s k).place
    (store_at d n s k).byte
cut_next d n s c k h =
    ap (λ (u : List Store). stored u c) (take-suc (load_stores d n s) k (storing 0 0) (omega (arith, length_load d n s)))
    ∙ made_append (cut_load k d n s) (store_at d n s k ∷ []) c
