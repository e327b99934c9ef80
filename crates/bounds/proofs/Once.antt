-- A network of two-input cells that reaches one input more than it has cells reads each of these, and each cell but the
-- last, just once: from the first cell on, each cell brings two signals that no later one reads. So it is a tree, the
-- cell's node put in place of its signal. Assumes nothing.
use mathlib.Core.Path.{◌≡◌, refl, sym, ap, ◌∙◌}
use mathlib.Core.Bool.{Bool, true, false, cond, ◌&&◌, ◌||◌, or-false}
use mathlib.Core.List.{List, [], ◌∷◌}
use Prim.Native.Nat.{ℕ, zero, suc, ◌+◌, ◌<◌, ◌≤◌}
use native.Mathlib.Nat.{not-suc-le-zero}
use native.Mathlib.Decide.{dec_lt}
use native.Mathlib.Omega.{arith}
use lib.Dec.{eqb}
use lib.ListN.{length, get_or}
use borrow.Author.Tests.{eq-eqb, ne_eqb, eqb-true, eqb-false}
use Rattle.bits.specs.Numbers.{bit, val, number}
use Rattle.bits.specs.Sets.{size}
use Rattle.bits.proofs.Bools.{clash, or_left, or_right, false_of}
use Rattle.bits.proofs.Sizes.{size_ext}
use Rattle.bits.proofs.Counting.{size_none, size-one, size-or, size-part}
use Rattle.tables.specs.Counting.{support}
use Rattle.tables.proofs.Depending.{support_counting}
use Rattle.splits.specs.Columns.{member}
use Rattle.sheets.specs.Network.{Cell, packed, output, run, Wired, Gives, Carries}
use Rattle.networks.proofs.Values.{size-member}
use Rattle.fewest.proofs.Reach.{needed, needed_most, counted-needed}
use Rattle.trees.specs.Tree.{Tree, input, node, value, uses, TreeOf}
use Rattle.trees.proofs.Graft.{graft, value_graft, uses_graft, uses-none}
use Rattle.trees.proofs.Prune.{computes_tree}
use Rattle.trees.proofs.Members.{val-le}

-- what cells from signal suc i on give, as a tree over the signals before: it reads what they need, none of it twice
record Grown (i : ℕ) (cs : List Cell) : Type 0 where
  tree : Tree
  once : (s : ℕ) → uses s tree ≤ val (needed (suc i) cs s)
  within : (s : ℕ) → suc i ≤ s → uses s tree ≡ 0
  gives : (o : Bool) (v : ℕ → Bool) → o ≡ v i → run o (suc i) cs v ≡ value tree v

-- two signals below i, and neither of them in N
record Two (i : ℕ) (l : List ℕ) (N : ℕ → Bool) : Type 0 where
  a : ℕ
  b : ℕ
  are : l ≡ a ∷ b ∷ []
  below_a : a < i
  below_b : b < i
  apart : a ≡ b → ⊥
  new_a : N a ≡ false
  new_b : N b ≡ false

-- ---- one cell more: c gives signal i and stands before cells that give the tree t and need N
module _ (i : ℕ) (c : Cell) (N : ℕ → Bool) (p : Two i c.signals N) (t : Tree) (once : (s : ℕ) → uses s t ≤ val (N s))
    (high : (s : ℕ) → suc i ≤ s → uses s t ≡ 0) where
  abbrev a : ℕ
  a = p.a

  abbrev b : ℕ
  b = p.b

  -- the cell as a node
  gate : Bool → Bool → Bool
  gate x y = bit c.table (number 2 (λ j. cond (eqb j 0) x y))

  by : Bool → ℕ → Tree
  by cell s = cond cell (node gate (input false a) (input false b)) (input false s)

  -- it is put in place of its signal
  put : ℕ → Tree
  put s = by (eqb s i) s

  gate_gives : (v : ℕ → Bool) → gate (v a) (v b) ≡ output c v
  unfolding gate output number
  gate_gives v = ap (λ (l : List ℕ). bit c.table (packed l v)) (sym p.are)

  put-value : (v : ℕ → Bool) (s : ℕ) → value (put s) v ≡ cond (eqb s i) (output c v) (v s)
  unfolding put by
  put-value v s = go (eqb s i)
    where
      go : (cell : Bool) → value (by cell s) v ≡ cond cell (output c v) (v s)
      go true = gate_gives v
      go false = refl

  -- the node reads either of its two signals once
  pair_once : (q : ℕ) → val (eqb a q) + val (eqb b q) ≤ 1
  pair_once q = go (eqb a q) (eqb b q) refl refl
    where
      go : (s t : Bool) → eqb a q ≡ s → eqb b q ≡ t → val s + val t ≤ 1
      go true true e f = absurd (p.apart (eqb-true a q e ∙ sym (eqb-true b q f)))
      go true false e f = omega arith
      go false true e f = omega arith
      go false false e f = omega arith

  -- they are read in place of the cell's own
  put_read : (q : ℕ) → N q ≡ false → uses q (graft put t) ≤ 1
  unfolding put by
  put_read q new = omega (
    arith,
    uses_graft put t q i (λ j r. go j r (eqb j i) refl),
    once i,
    val-le (N i) true
        (λ _. refl),
  )
    where
      go : (j : ℕ) → 1 ≤ uses j t → (cell : Bool) → eqb j i ≡ cell → uses q (by cell j) ≤ val (eqb j i)
      go j r true e = omega (arith, pair_once q, ap val e)
      go j r false e = omega (
        arith,
        ap val (ne_eqb j q
            (λ z. omega (arith, once j, ap (λ (s : ℕ). val (N s)) z, ap val new))),
      )

  -- another signal is read as often as before
  put_other : (q : ℕ) → (a ≡ q → ⊥) → (b ≡ q → ⊥) → uses q (graft put t) ≤ uses q t
  unfolding put by
  put_other q f g = uses_graft put t q q (λ j _. go j (eqb j i))
    where
      go : (j : ℕ) (cell : Bool) → uses q (by cell j) ≤ val (eqb j q)
      go j true = omega (arith, ap val (ne_eqb a q f), ap val (ne_eqb b q g))
      go j false = omega arith

  put-once : (q : ℕ) → uses q (graft put t) ≤ val (N q || member q c.signals)
  put-once q = omega (arith, go (eqb q a) (eqb q b) refl refl, ap (λ (l : List ℕ). val (N q || member q l)) p.are)
    where
      go : (s t' : Bool) → eqb q a ≡ s → eqb q b ≡ t' → uses q (graft put t) ≤ val (N q || (s || (t' || false)))
      go true t' e f = omega (arith, put_read q (ap N (eqb-true q a e) ∙ p.new_a), ap val (or_right (N q) true refl))
      go false true e f = omega (arith, put_read q (ap N (eqb-true q b f) ∙ p.new_b), ap val (or_right (N q) true refl))
      go false false e f =
          omega (
            arith,
            put_other q (λ z. eqb-false q a e (sym z)) (λ z. eqb-false q b f (sym z)),
            once q,
            ap val
                (or-false (N q)),
          )

  -- and the cell's own no more, nor any after
  put_within : (q : ℕ) → i ≤ q → uses q (graft put t) ≡ 0
  unfolding put by
  put_within q l = uses-none put t q (λ j r. go j r (eqb j i) refl)
    where
      go : (j : ℕ) → 1 ≤ uses j t → (cell : Bool) → eqb j i ≡ cell → uses q (by cell j) ≡ 0
      go j r true e =
          let x = ap val (ne_eqb a q (λ z. omega (arith, p.below_a))) in
          let y = ap val (ne_eqb b q (λ z. omega (arith, p.below_b))) in
          omega (arith, x, y)
      go j r false e = ap val (ne_eqb j q (λ z. elim (dec_lt j (suc i)) [
        | yes g ↦ eqb-false j i e (omega arith)
        | no g ↦ omega (arith, high j (omega arith))
      ]))

-- ---- what the cells after c leave for it, where they need its signal, suc i: with c there are two signals more
module _ (i : ℕ) (c : Cell) (cs : List Cell) (few : length c.signals ≤ 2)
    (low : (j : ℕ) → j < length c.signals → get_or c.signals j 0 < suc i)
    (N : ℕ → Bool) (most : size (suc i) N ≤ length cs)
    (more : suc (length cs) < size (suc i) (λ s. N s || member s c.signals)) where
  -- it reads not one alone beside what they need
  not-one : (x : ℕ) → ((s : ℕ) → member s c.signals ≡ true → (N s || eqb s x) ≡ true) → ⊥
  not-one x h =
      omega (
        arith,
        size-part (suc i) (λ s. N s || member s c.signals) (λ s. N s || eqb s x)
            (λ s _ e. go s (N s) (member s c.signals) refl refl e),
        size-or (suc i) N (λ s. eqb s x),
        size-one (suc i) x,
      )
    where
      go : (s : ℕ) (p q : Bool) → N s ≡ p → member s c.signals ≡ q → (p || q) ≡ true → (N s || eqb s x) ≡ true
      go s true q e f z = or_left (N s) (eqb s x) e
      go s false true e f z = h s f
      go s false false e f z = cc

  two : Two (suc i) c.signals N
  two = go c.signals refl
    where
      go : (l : List ℕ) → c.signals ≡ l → Two (suc i) c.signals N
      go [] e = absurd (not-one 0 (λ s m. let z = rw e at m in cc))
      go (a ∷ []) e = absurd (not-one a (λ s m. let z = rw e at m
          in or_right (N s) (eqb s a) (sym (or-false (eqb s a)) ∙ z)))
      go (a ∷ b ∷ []) e = record {
        a = a;
        b = b;
        are = e;
        below_a = low_at_lem 0 (omega arith);
        below_b = low_at_lem 1 (omega arith);
        apart = λ q. not-one a (λ s m. both s (rw e at m)
            (λ f. or_right (N s) (eqb s a) (eq-eqb s a (eqb-true s b f ∙ sym q))) (λ f. or_right (N s) (eqb s a) f));
        new_a = false_of (N a) (λ n. not-one b (λ s m. both s (rw e at m) (λ f. or_right (N s) (eqb s b) f)
            (λ f. or_left (N s) (eqb s b) (ap N (eqb-true s a f) ∙ n))));
        new_b = false_of (N b) (λ n. not-one a (λ s m. both s (rw e at m)
            (λ f. or_left (N s) (eqb s a) (ap N (eqb-true s b f) ∙ n)) (λ f. or_right (N s) (eqb s a) f)));
      }
        where
          low_at_lem : (j : ℕ) → j < 2 → get_or (a ∷ b ∷ []) j 0 < suc i
          low_at_lem = rw e at low

          both : {P : Type 0} (s : ℕ) → member s (a ∷ b ∷ []) ≡ true → (eqb s b ≡ true → P) → (eqb s a ≡ true → P) → P
          both {P} s m f g = cases (eqb s a) (eqb s b) refl refl m
            where
              cases : (p q : Bool) → eqb s a ≡ p → eqb s b ≡ q → (p || (q || false)) ≡ true → P
              cases true q e r z = g e
              cases false true e r z = f r
              cases false false e r z = absurd (clash z refl)
      go (a ∷ b ∷ x ∷ l) e = absurd (omega (arith, ap length e))

-- ---- cells that need one signal more than they are
grown : (i : ℕ) (cs : List Cell) → Wired 2 (suc i) cs → length cs < size (suc i) (needed (suc i) cs) → Grown i cs
unfolding needed run size
grown i [] w h = record {
  tree = input false i;
  once = λ s. val-le (eqb i s) (eqb (suc s) (suc i)) (λ e. eq-eqb (suc s) (suc i) (ap suc (sym (eqb-true i s e))));
  within = λ s l. ap val (ne_eqb i s (λ z. omega arith));
  gives = λ o v e. e;
}
grown i (c ∷ cs) w h = go (needed (suc (suc i)) cs (suc i)) refl (grown (suc i) cs w.2)
  where
    N : ℕ → Bool
    N = needed (suc (suc i)) cs

    most : size (suc i) N + val (N (suc i)) ≤ length cs + 1
    most = omega (arith, needed_most 2 (suc (suc i)) cs w.2)

    go : (t : Bool) → N (suc i) ≡ t → (length cs < size (suc (suc i)) N → Grown (suc i) cs) → Grown i (c ∷ cs)
    go false e ih =
        absurd (omega (
          arith,
          most,
          size_ext (suc i) (needed (suc i) (c ∷ cs)) N
              (λ s _. ap (λ (t : Bool). N s || (t && member s c.signals)) e ∙ or-false (N s)),
        ))
    go true e ih = from (two i c cs w.0 w.1 N (omega (arith, most, ap val e)) more) (ih enough)
      where
        same : (s : ℕ) → needed (suc i) (c ∷ cs) s ≡ (N s || member s c.signals)
        same s = ap (λ (t : Bool). N s || (t && member s c.signals)) e

        more : suc (length cs) < size (suc i) (λ s. N s || member s c.signals)
        more = omega (
          arith,
          size_ext (suc i) (needed (suc i) (c ∷ cs)) (λ s. N s || member s c.signals)
              (λ s _. same s),
        )

        enough : length cs < size (suc (suc i)) N
        enough = omega (
          arith,
          ap val e,
          more,
          size-or (suc i) N (λ s. member s c.signals),
          size-member (suc i)
              c.signals,
          w.0,
        )

        from : Two (suc i) c.signals N → Grown (suc i) cs → Grown i (c ∷ cs)
        from p g = record {
          tree = graft σ g.tree;
          once = λ s. omega (arith, put-once (suc i) c N p g.tree g.once g.within s, ap val (same s));
          within = put_within (suc i) c N p g.tree g.once g.within;
          gives = λ o v _.
              g.gives (output c v) (λ s. cond (eqb s (suc i)) (output c v) (v s))
              (ap (λ (t : Bool). cond t (output c v) (v (suc i))) (sym (eq-eqb (suc i) (suc i) refl)))
              ∙ sym (value_graft σ g.tree v (λ s. cond (eqb s (suc i)) (output c v) (v s))
              (λ s _. put-value (suc i) c N p g.tree g.once g.within v s));
        }
          where
            σ : ℕ → Tree
            σ = put (suc i) c N p g.tree g.once g.within

-- ---- m cells of two inputs that carry a table of which more than m inputs count are a tree of it
pub network_tree : (n m : ℕ) (F : ℕ → Bool) → Carries n 2 m F → m < size n (bit (support n F)) → (t : Tree)
    × TreeOf n F t
unfolding run
network_tree n m F C h = go n C.cells C.network (omega (arith, C.count))
  where
    go : (k : ℕ) (cs : List Cell) → Gives k 2 F cs → length cs < size k (bit (support k F)) → (t : Tree) × TreeOf k F t
    go zero cs N l = absurd (omega (
      arith,
      size_none 0,
      size-part 0 (bit (support 0 F)) (λ j. false)
          (λ j b _. absurd (not-suc-le-zero b)),
    ))
    go (suc k) [] N l = absurd (omega (arith, N.some))
    go (suc k) (c ∷ cs) N l =
        from (grown k (c ∷ cs) N.wired (omega (
          arith,
          size-part (suc k) (bit (support (suc k) F)) (needed (suc k) (c ∷ cs)) (λ j b e.
              counted-needed (suc k) 2 F c cs N j b (support_counting (suc k) F j b e)),
        )))
      where
        from : Grown k (c ∷ cs) → (t : Tree) × TreeOf (suc k) F t
        from g = computes_tree (suc k) F g.tree (record {
          most = λ j. omega (arith, g.once j, val-le (needed (suc k) (c ∷ cs) j) true (λ _. refl));
          within = g.within;
          computes = λ x b. sym (g.gives (bit x k) (bit x) refl) ∙ N.gives x b;
        })
