-- Four desks on one card: the isolation. Assumes nothing.
use mathlib.Core.Path.{◌≡◌, refl, sym, ap, ◌∙◌, subst}
use mathlib.Core.Logic.{◌↔◌}
use mathlib.Core.List.{List, []}
use Prim.Native.Nat.{ℕ, suc, ◌<◌, ◌≤◌}
use native.Mathlib.Omega.{arith}
use lib.ListN.{length, set, take, drop}
use lib.Seq.{take_all}
use Rattle.sheets.specs.Edition.{first_edition}
use Rattle.sheets.specs.Sheet.{records}
use Rattle.sheets.proofs.Keeping.{first_edition_lem}
use Rattle.sheets.proofs.Desks.{good_desk}
use Rattle.refusals.specs.Verdicts.{Fine}
use Rattle.refusals.specs.Lines.{refusal}
use Rattle.running.specs.RunSheet.{run_not, run_outcome, run_own}
use Rattle.cards.specs.declared.stores.Store.{Store}
use Rattle.cards.specs.Card.{desks, card_bytes, own_bytes, SameUse}
use Rattle.cards.specs.Stores.{stored, load_stores, store_count, store_at, cut_load, one_store, onto, Holds}
use Rattle.cards.specs.LoadDesk.{part_outcome, load_outcome}
use Rattle.cards.specs.LoadCut.{cut_outcome}
use Rattle.cards.specs.LoadStore.{store_outcome}
use Rattle.cards.specs.RunDesk.{desk_outcome, run_desk_outcome}
use Rattle.cards.specs.Mingling.{Load, stores_in_turn, waiting, Mingling, accepted, called}
use Rattle.cards.proofs.Making.{Every, every_take, every_drop, made_length, own_made}
use Rattle.cards.proofs.Order.{Into, all_into, onto_other, length_load}
use Rattle.cards.proofs.Mingled.{waits_own, mingling_seen, seen_mingling, turn_mingles, beginning_seen}
use Rattle.cards.proofs.Loaded.{desk_holds}
use Rattle.cards.proofs.Desks.{Accepted, run_own_lem, answers_own, cut_closed, load_answers, others_answer}
use Rattle.cards.proofs.Looked.{looks_used}
use Rattle.cards.proofs.Calls.{load_verdict, accepted-alike, numbered, mingled_calls, one_byte, cut_next}
use Rattle.claims.proofs.CardsLoad.{load_says, load_made, load_accepted, load_either}

-- ---- the mingling

-- Loads are asked for, each of any desk, any n and any sheet. Let the stores of those that are accepted come in any
-- order that keeps each desk's own, one load after another: the card ends as one call after another leaves it.
pub mingled_loads : (ls : List Load) (c : List ℕ) (w : List Store) → Mingling (waiting (accepted c ls)) w → stored w c
    ≡ called ls c
mingled_loads = mingled_calls

-- An order is such a mingling exactly if each desk sees the stores of its own accepted loads, one load after another;
-- one call after another is one of them.
pub mingling_exactly : (ls : List Load) (c : List ℕ) (w : List Store)
    → Mingling (waiting (accepted c ls)) w ↔ ((d : ℕ) → onto d w ≡ waiting (accepted c ls) d)
mingling_exactly ls c w = (λ m. mingling_seen m (waits_own (accepted c ls) (numbered ls c)), seen_mingling w)

pub turn_is_mingling : (ls : List Load) (c : List ℕ) → Mingling (waiting (accepted c ls)) (stores_in_turn (accepted c ls))
turn_is_mingling ls c = turn_mingles (accepted c ls) (numbered ls c)

-- Whether a load is accepted, its number and its index do not depend on what the card holds, nor on which of the
-- load's stores are made.
pub accepted_anyhow : (ts us : List Store) (c e : List ℕ) (d n : ℕ) (s : List ℕ) → length c ≡ length e
    → (part_outcome ts c d n s).verdict ≡ (part_outcome us e d n s).verdict
accepted_anyhow ts us c e d n s q = load_says ts c d n s ∙ load_verdict c e d n s q ∙ sym (load_says us e d n s)

-- So in the midst of a mingling the same loads are accepted as before it.
pub accepted_midway : (ls : List Load) (c : List ℕ) (u : List Store) → accepted (stored u c) ls ≡ accepted c ls
accepted_midway ls c u = accepted-alike ls (stored u c) c (made_length u c)

-- After any stores, from anywhere, a desk answers as if only those into it had been made,
pub answers_alone : (u : List Store) (c : List ℕ) (d x : ℕ) → run_desk_outcome (stored u c) d x
    ≡ run_desk_outcome (stored (onto d u) c) d x
answers_alone = answers_own

-- and in the midst of a mingling these are the beginning of its own loads.
pub midway : (ls : List Load) (c : List ℕ) (w : List Store) → Mingling (waiting (accepted c ls)) w → (k d : ℕ)
    → onto d (take k w) ≡ take (length (onto d (take k w))) (waiting (accepted c ls) d)
midway ls c w m k d = beginning_seen m (waits_own (accepted c ls) (numbered ls c)) k d

-- So it answers as if a beginning of its own loads had been made, and nothing else.
pub midway_answers : (ls : List Load) (c : List ℕ) (w : List Store) → Mingling (waiting (accepted c ls)) w → (k d x : ℕ)
    → run_desk_outcome (stored (take k w) c) d x ≡ run_desk_outcome
    (stored (take (length (onto d (take k w))) (waiting (accepted c ls) d)) c) d x
midway_answers ls c w m k d x = answers_own (take k w) c d x
    ∙ ap (λ (u : List Store). run_desk_outcome (stored u c) d x) (midway ls c w m k d)

-- ---- a desk's own bytes

-- Once the card's length is right, what a desk answers, refusals too, is a function of its own 256 bytes and the
-- assignment.
pub own_alone : (c e : List ℕ) (d x : ℕ) → length c ≡ card_bytes → length e ≡ card_bytes → own_bytes c d ≡ own_bytes e d
    → run_desk_outcome c d x ≡ run_desk_outcome e d x
own_alone c e d x g h q = run_own_lem c d x g ∙ ap (λ (o : List ℕ). desk_outcome o d x) q ∙ sym (run_own_lem e d x h)

-- Of these neither the unused places nor the 13 last bytes are looked at.
pub used_alone : (c e : List ℕ) (d x : ℕ) → length c ≡ card_bytes → length e ≡ card_bytes
    → SameUse (own_bytes c d) (own_bytes e d)
    → run_desk_outcome c d x ≡ run_desk_outcome e d x
used_alone c e d x g h q = run_own_lem c d x g ∙ looks_used d x (own_bytes c d) (own_bytes e d) q ∙ sym (run_own_lem e d x h)

-- No store of a desk's load, nor any part of it, changes a byte or an answer of another's, accepted or not.
module _ (a b : ℕ) (c : List ℕ) (d n : ℕ) (s : List ℕ) (f : ℕ) (other : d ≡ f → ⊥) where
  abbrev part : List Store
  part = take a (drop b (load_stores d n s))

  elsewhere : 1 ≤ d → Every (Into d) part
  elsewhere l = every_take (Into d) a (drop b (load_stores d n s))
      (every_drop (Into d) b (load_stores d n s) (all_into d n s l))

  pub answers_stay : (x : ℕ) → run_desk_outcome (part_outcome part c d n s).card f x ≡ run_desk_outcome c f x
  answers_stay x = load_either part c d n s (λ e. run_desk_outcome e f x ≡ run_desk_outcome c f x) refl
      (λ w. others_answer d f part c x other (elsewhere w.least))

  pub bytes_stay : 1 ≤ f → f ≤ desks → own_bytes (part_outcome part c d n s).card f ≡ own_bytes c f
  bytes_stay l m =
      load_either part c d n s (λ e. own_bytes e f ≡ own_bytes c f) refl
      (λ w. own_made part c f w.long l m ∙ ap (λ (v : List Store). own_bytes (stored v c) f)
      (onto_other d f part other (elsewhere w.least)))

-- ---- a load that is accepted, and cut

module _ (c : List ℕ) (d n : ℕ) (s : List ℕ) (done : (load_outcome c d n s).verdict ≡ Fine) where
  okay : Accepted c d n s
  okay = load_accepted (load_stores d n s) c d n s done

  cut_made : (ts : List Store) → (part_outcome ts c d n s).card ≡ stored ts c
  cut_made ts = load_made ts c d n s (accepted_anyhow ts (load_stores d n s) c c d n s refl ∙ done)

  -- Where no store was made the card is as before.
  pub cut_before : (cut_outcome 0 c d n s).card ≡ c
  cut_before = cut_made []

  -- From the first store to before the last the desk is closed,
  pub cut_shut : (k x : ℕ) → 1 ≤ k → k < store_count → run_desk_outcome (cut_outcome k c d n s).card d x
      ≡ run_not (refusal 18 0)
  cut_shut k x h g = ap (λ (e : List ℕ). run_desk_outcome e d x) (cut_made (cut_load k d n s))
      ∙ cut_closed c d n s okay x k h g

  -- and after the last it answers, at every assignment, as the new sheet does on the bench.
  pub cut_opened : (k x : ℕ) → store_count ≤ k → run_desk_outcome (cut_outcome k c d n s).card d x
      ≡ run_outcome first_edition d n s x
  cut_opened k x h =
      ap (λ (e : List ℕ). run_desk_outcome e d x) (cut_made (cut_load k d n s)
      ∙ ap (λ (u : List Store). stored u c) (take_all k (load_stores d n s) (omega (arith, length_load d n s))))
      ∙ load_answers c d n s okay x

  pub loaded_answers : (x : ℕ) → run_desk_outcome (load_outcome c d n s).card d x ≡ run_outcome first_edition d n s x
  loaded_answers x = ap (λ (e : List ℕ). run_desk_outcome e d x) (cut_made (load_stores d n s))
      ∙ load_answers c d n s okay x

  -- That is what the bench's own call answers, since the sheet is for this desk.
  pub loaded_own : (x : ℕ) → run_desk_outcome (load_outcome c d n s).card d x ≡ run_own first_edition n s x
  loaded_own x =
      loaded_answers x
      ∙ ap (λ (k : ℕ). run_outcome first_edition k n s x)
      (sym (good_desk first_edition n s first_edition_lem (records first_edition s) d okay.most okay.good))

  -- All 256 bytes of the desk are then settled.
  pub loaded_holds : Holds (own_bytes (load_outcome c d n s).card d) n s
  loaded_holds =
      subst (λ (e : List ℕ). Holds (own_bytes e d) n s) (sym (cut_made (load_stores d n s)))
      (desk_holds d n s c okay.long okay.least okay.most)

  -- The order of the stores: each beginning of the load is the one before it and the next store,
  pub cut_one_more : (k : ℕ) → k < store_count → (cut_outcome (suc k) c d n s).card
      ≡ set (cut_outcome k c d n s).card (store_at d n s k).place (store_at d n s k).byte
  cut_one_more k h =
      cut_made (cut_load (suc k) d n s) ∙ cut_next d n s c k h
      ∙ ap (λ (e : List ℕ). set e (store_at d n s k).place (store_at d n s k).byte) (sym (cut_made (cut_load k d n s)))

  -- which is what the call for one store makes.
  pub store_alone : (k : ℕ) → k < store_count → (store_outcome k c d n s).card
      ≡ set c (store_at d n s k).place (store_at d n s k).byte
  store_alone k h = cut_made (one_store k d n s) ∙ one_byte d n s c k h
