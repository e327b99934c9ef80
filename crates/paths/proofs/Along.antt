-- The output's time is the best along all paths, for any kind of time whose order `pick` and `after` respect. The times
-- of the signals, once all cells are passed, satisfy each cell's equation; along a path they get no better, and from
-- each signal a path leads back to an input. Assumes nothing.
use mathlib.Core.Path.{◌≡◌, refl, sym, ap, subst, ◌∙◌}
use mathlib.Core.Logic.{◌⊎◌, inl, inr}
use mathlib.Core.Bool.{Bool, true, false, cond}
use mathlib.Core.List.{List, [], ◌∷◌}
use Prim.Native.Nat.{ℕ, zero, suc, ◌+◌, ◌-◌, ◌<◌, ◌≤◌}
use native.Mathlib.Nat.{not-suc-le-zero}
use native.Mathlib.Decide.{dec_lt}
use native.Mathlib.Omega.{arith}
use lib.Dec.{eqb}
use lib.ListN.{length, get_or}
use borrow.Author.Tests.{eq-eqb, ne_eqb}
use Rattle.sheets.specs.Network.{Cell}
use Rattle.times.specs.Signals.{kept_time, cell_time, output_time}
use Rattle.times.proofs.Passing.{kept_ext}
use Rattle.paths.specs.Paths.{read_by, Leads, begins, goes, along, BestPath}

-- every cell reads some signals, each given before it
abbrev pub Fed : ℕ → List Cell → Type 0
Fed n cs = (i : ℕ) → i < length cs → (1 ≤ length (read_by cs i))
    × ((p : ℕ) → p < length (read_by cs i) → get_or (read_by cs i) p 0 < n + i)

module _ {A : Type 0} (pick : A → A → A) (after : A → A) where
  -- the times of all signals once the cells are passed
  all_times : ℕ → List Cell → (ℕ → A) → ℕ → A
  all_times i [] v = v
  all_times i (c ∷ cs) v = all_times (suc i) cs (λ t. cond (eqb t i) (cell_time pick after c v) (v t))

  earlier : (i : ℕ) (cs : List Cell) (v : ℕ → A) (t : ℕ) → t < i → all_times i cs v t ≡ v t
  unfolding all_times
  earlier i [] v t h = refl
  earlier i (c ∷ cs) v t h =
      earlier (suc i) cs (λ t. cond (eqb t i) (cell_time pick after c v) (v t)) t (omega arith)
      ∙ ap (λ (b : Bool). cond b (cell_time pick after c v) (v t)) (ne_eqb t i (λ q. omega arith))

  last : (t i : ℕ) (cs : List Cell) (o : A) (v : ℕ → A) → i ≡ suc t → o ≡ v t → output_time pick after o i cs v
      ≡ all_times i cs v (t + length cs)
  unfolding all_times output_time
  last t i [] o v q h = let z : t ≡ t + 0 = omega arith in h ∙ ap v z
  last t i (c ∷ cs) o v q h =
      let z : i + length cs ≡ t + suc (length cs) = omega arith in
      last i (suc i) cs (cell_time pick after c v) (λ s. cond (eqb s i) (cell_time pick after c v) (v s)) refl
      (sym (ap (λ (b : Bool). cond b (cell_time pick after c v) (v i)) (eq-eqb i i refl)))
      ∙ ap (all_times (suc i) cs (λ s. cond (eqb s i) (cell_time pick after c v) (v s))) z

  output_last : (n : ℕ) (cs : List Cell) (o : A) (v : ℕ → A) → 1 ≤ length cs → output_time pick after o n cs v
      ≡ all_times n cs v (n + (length cs - 1))
  unfolding all_times output_time
  output_last n [] o v h = absurd (not-suc-le-zero h)
  output_last n (c ∷ cs) o v h =
      let z : n + length cs ≡ n + (suc (length cs) - 1) = omega arith in
      last n (suc n) cs (cell_time pick after c v) (λ s. cond (eqb s n) (cell_time pick after c v) (v s)) refl
      (sym (ap (λ (b : Bool). cond b (cell_time pick after c v) (v n)) (eq-eqb n n refl)))
      ∙ ap (all_times (suc n) cs (λ s. cond (eqb s n) (cell_time pick after c v) (v s))) z

  -- a cell's time by the signals that it reads
  by_reads : List ℕ → (ℕ → A) → A
  by_reads l v = after (kept_time pick (λ p. v (get_or l p 0)) (length l - 1))

  reads_ext : (l : List ℕ) (v w : ℕ → A) → 1 ≤ length l → ((p : ℕ) → p < length l → v (get_or l p 0) ≡ w (get_or l p 0))
      → by_reads l v ≡ by_reads l w
  unfolding by_reads
  reads_ext l v w s h = ap after (kept_ext pick (length l - 1) (λ p. v (get_or l p 0)) (λ p. w (get_or l p 0))
      (λ p k. h p (omega arith)))

  -- each cell's equation
  equation : (n : ℕ) (cs : List Cell) (v : ℕ → A) → Fed n cs → (i : ℕ) → i < length cs → all_times n cs v (n + i)
      ≡ by_reads (read_by cs i) (all_times n cs v)
  unfolding all_times cell_time by_reads
  equation n [] v f i h = absurd (not-suc-le-zero h)
  equation n (c ∷ cs) v f zero h =
      let w : ℕ → A = λ t. cond (eqb t n) (cell_time pick after c v) (v t) in
      let z : n + 0 ≡ n = omega arith in
      ap (all_times n (c ∷ cs) v) z ∙ earlier (suc n) cs w n (omega arith)
      ∙ ap (λ (b : Bool). cond b (cell_time pick after c v) (v n)) (eq-eqb n n refl)
      ∙ reads_ext c.signals v (all_times n (c ∷ cs) v) (f 0 h).0
      (λ p k. sym (earlier n (c ∷ cs) v (get_or c.signals p 0) (omega (arith, (f 0 h).1 p k))))
  equation n (c ∷ cs) v f (suc i) h =
      let w : ℕ → A = λ t. cond (eqb t n) (cell_time pick after c v) (v t) in
      let z : n + suc i ≡ suc n + i = omega arith in
      ap (all_times n (c ∷ cs) v) z
      ∙ equation (suc n) cs w (λ k l. (
        (f (suc k) (omega arith)).0,
        λ p q. omega
            (arith, (f (suc k) (omega arith)).1 p q),
      )) i (omega arith)

  -- ---- an order that both respect, on times that satisfy P

  module _ (◌⊑◌ : A → A → Type 0) (P : A → Type 0)
      (same : (x : A) → P x → ◌⊑◌ x x)
      (through : (x y z : A) → P x → P y → P z → ◌⊑◌ x y → ◌⊑◌ y z → ◌⊑◌ x z)
      (either : (x y : A) → (pick x y ≡ x) ⊎ (pick x y ≡ y))
      (left : (x y : A) → P x → P y → ◌⊑◌ (pick x y) x)
      (right : (x y : A) → P x → P y → ◌⊑◌ (pick x y) y)
      (good : (x : A) → P x → P (after x))
      (mono : (x y : A) → P x → P y → ◌⊑◌ x y → ◌⊑◌ (after x) (after y)) where
    infixl 20 ◌⊑◌
    -- the time that is kept is one of them
    record Chosen (v : ℕ → A) (k : ℕ) : Type 0 where
      pub at : ℕ
      pub within : at ≤ k
      pub is : kept_time pick v k ≡ v at

    chosen : (v : ℕ → A) (k : ℕ) → Chosen v k
    unfolding kept_time
    chosen v zero = record { at = 0; within = omega arith; is = refl }
    chosen v (suc k) = elim (either (kept_time pick v k) (v (suc k))) [
      | inl q ↦ let c = chosen v k in record { at = c.at; within = omega (arith, c.within); is = q ∙ c.is }
      | inr q ↦ record { at = suc k; within = omega arith; is = q }
    ]

    kept_good : (v : ℕ → A) (k : ℕ) → ((t : ℕ) → P (v t)) → P (kept_time pick v k)
    kept_good v k h = let c = chosen v k in subst P (sym c.is) (h c.at)

    -- and at least as good as each of them
    kept_best : (v : ℕ → A) (k p : ℕ) → p ≤ k → ((t : ℕ) → P (v t)) → kept_time pick v k ⊑ v p
    unfolding kept_time
    kept_best v zero p h g = let z : p ≡ 0 = omega arith in subst (λ (q : ℕ). v 0 ⊑ v q) (sym z) (same (v 0) (g 0))
    kept_best v (suc k) p h g = elim (dec_lt p (suc k)) [
      | yes l ↦ through (pick (kept_time pick v k) (v (suc k))) (kept_time pick v k) (v p) (kept_good v (suc k) g)
          (kept_good v k g) (g p)
          (left (kept_time pick v k) (v (suc k)) (kept_good v k g) (g (suc k))) (kept_best v k p (omega arith) g)
      | no l ↦ let z : p ≡ suc k = omega arith in
          subst (λ (q : ℕ). pick (kept_time pick v k) (v (suc k)) ⊑ v q) (sym z)
          (right (kept_time pick v k) (v (suc k)) (kept_good v k g) (g (suc k)))
    ]

    all_good : (i : ℕ) (cs : List Cell) (v : ℕ → A) → ((t : ℕ) → P (v t)) → (t : ℕ) → P (all_times i cs v t)
    unfolding all_times cell_time
    all_good i [] v g t = g t
    all_good i (c ∷ cs) v g t = all_good (suc i) cs (λ t. cond (eqb t i) (cell_time pick after c v) (v t))
        (λ u. one (eqb u i) u) t
      where
        one : (b : Bool) (u : ℕ) → P (cond b (cell_time pick after c v) (v u))
        one true u = good _ (kept_good (λ p. v (get_or c.signals p 0)) (length c.signals - 1)
            (λ p. g (get_or c.signals p 0)))
        one false u = g u

    along_good : (k : ℕ) (x : A) → P x → P (along after k x)
    unfolding along
    along_good zero x h = h
    along_good (suc k) x h = good (along after k x) (along_good k x h)

    module _ (n : ℕ) (cs : List Cell) (v : ℕ → A) (fed : Fed n cs) (g : (t : ℕ) → P (v t)) where
      W : ℕ → A
      W = all_times n cs v

      along_path : (j t k : ℕ) → Leads n cs j t k → W t ⊑ along after k (v j)
      unfolding along W by_reads
      along_path j t k (begins h) = subst (λ (x : A). x ⊑ v j) (sym (earlier n cs v j h)) (same (v j) (g j))
      along_path j t k (goes s m i p l h q e) =
          let f = fed i h in
          let u : ℕ → A = λ r. W (get_or (read_by cs i) r 0) in
          let b : (r : ℕ) → P (u r) = λ r. all_good n cs v g (get_or (read_by cs i) r 0) in
          let a : W (get_or (read_by cs i) p 0) ⊑ along after m (v j) = subst (λ (r : ℕ). W r ⊑ along after m (v j))
          (sym e) (along_path j s m l) in
          let x = kept_time pick u (length (read_by cs i) - 1) in
          subst (λ (y : A). y ⊑ after (along after m (v j))) (sym (equation n cs v fed i h))
          (mono x (along after m (v j)) (kept_good u (length (read_by cs i) - 1) b) (along_good m (v j) (g j))
          (through x (u p) (along after m (v j)) (kept_good u (length (read_by cs i) - 1) b) (b p)
          (along_good m (v j) (g j)) (kept_best u (length (read_by cs i) - 1) p (omega (arith, f.0)) b) a))

      -- a path back to an input
      record Back (t : ℕ) : Type 0 where
        pub input : ℕ
        pub cells : ℕ
        pub path : Leads n cs input t cells
        pub reached : W t ≡ along after cells (v input)

      back : (b t : ℕ) → t < b → t < n + length cs → Back t
      unfolding along W by_reads
      back zero t h l = absurd (not-suc-le-zero h)
      back (suc b) t h l = elim (dec_lt t n) [
        | yes q ↦ record { input = t; cells = 0; path = begins q; reached = earlier n cs v t q }
        | no q ↦ step (t - n) (omega arith) (omega arith) (back b)
      ]
        where
          step : (i : ℕ) → t ≡ n + i → i < length cs → ((s : ℕ) → s < b → s < n + length cs → Back s) → Back t
          step i e k ih =
              let f = fed i k in
              let c = chosen (λ r. W (get_or (read_by cs i) r 0)) (length (read_by cs i) - 1) in
              let s = get_or (read_by cs i) c.at 0 in
              let low : s < n + i = f.1 c.at (omega (arith, c.within, f.0)) in
              let w = ih s (omega arith) (omega arith) in
              subst Back (sym e) (record {
                input = w.input;
                cells = suc w.cells;
                path = goes s w.cells i c.at w.path k (omega (arith, c.within, f.0)) refl;
                reached = equation n cs v fed i k ∙ ap after (c.is ∙ w.reached);
              })

      pub best_path : (o : A) → 1 ≤ length cs → BestPath ◌⊑◌ after n cs v (output_time pick after o n cs v)
      unfolding W
      best_path o some =
          let e = output_last n cs o v some in
          let w = back (n + length cs) (n + (length cs - 1)) (omega arith) (omega arith) in record {
            bound = λ j k l. subst (λ (x : A). x ⊑ along after k (v j)) (sym e)
                (along_path j (n + (length cs - 1)) k l);
            input = w.input;
            cells = w.cells;
            path = w.path;
            reached = e ∙ w.reached;
          }
