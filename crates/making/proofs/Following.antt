-- The chain as the code follows it: behind the cells so far stands the chain of the table at hand. Assumes nothing.
use mathlib.Core.Path.{◌≡◌, sym, ap, ap₂, ◌∙◌, subst}
use mathlib.Core.Bool.{Bool, true}
use mathlib.Core.List.{List, [], ◌∷◌, ◌++◌}
use Prim.Native.Nat.{ℕ, suc, ◌+◌, ◌*◌, ◌-◌, ◌^◌, ◌<◌, ◌≤◌}
use native.Mathlib.Omega.{arith}
use lib.ListN.{length, get_or}
use Rattle.bits.specs.Numbers.{bit, number}
use Rattle.bits.specs.Sets.{size}
use Rattle.bits.specs.Lists.{list_of}
use Rattle.bits.proofs.Numbers.{number_ext}
use Rattle.bits.proofs.Lists.{length-list}
use Rattle.columns.specs.declared.split.Split.{Split}
use Rattle.splits.specs.Split.{reads_d, reads_h}
use Rattle.splits.specs.Pair.{table_d, table_h, bit_h}
use Rattle.splits.specs.Columns.{most_first, few_columns}
use Rattle.splits.proofs.Possible.{possible_iff}
use Rattle.best.specs.Best.{Candidate}
use Rattle.choices.specs.Best.{BestUpTo}
use Rattle.choices.specs.Search.{nothing, choice, best_up_to}
use Rattle.choices.proofs.Best.{upto_best}
use Rattle.sheets.specs.Network.{Cell}
use Rattle.sheets.specs.Edition.{largest_cell}
use Rattle.chains.specs.Chain.{pick, Made, stuck, made, behind, chain, last_cell, signals_after}
use Rattle.chains.proofs.View.{after-inputs, after-length}
use Rattle.chains.proofs.Same.{table_ends, table_stops, table_goes, next-number, behind-none, behind-behind}
use Rattle.making.specs.declared.signals.Signals.{Signals}
use Rattle.making.specs.declared.chaining.Stage.{Stage}
use Rattle.making.specs.Stage.{signals_of}
use Rattle.making.specs.Area.{at_hand}
use Rattle.tables.specs.Work.{work_length}
use Rattle.making.specs.Pile.{Piled}
use Rattle.making.specs.Chaining.{d_cell, Stepped}
use Rattle.making.proofs.Piling.{grown_piled}

signals_length : (s : Signals) → length (signals_of s) ≡ s.count
signals_length s = length-list s.count (λ j. get_or s.at j 0)

-- with up to m first cells of size K: the cells written so far, and what is left to do, in so many turns
module _ (n m K : ℕ) (whole : Made) where
  pub record Underway (stage : Stage) (work : List ℕ) : Type 0 where
    pub some : 1 ≤ stage.signals.count
    pub room : stage.pile.count + most_first * stage.signals.count ≤ most_first * n
    pub long : work_length ≤ length work
    pub written : List Cell
    pub piled : Piled stage.pile written
    pub turns : ℕ
    pub enough : stage.signals.count ≤ turns
    pub rest : whole ≡ behind written
        (chain m turns K (n + stage.pile.count) (signals_of stage.signals) (number (2 ^ length (signals_of stage.signals)) (at_hand work)))

  module _ (stage : Stage) (work : List ℕ) (g : Underway stage work) where
    abbrev l : List ℕ
    l = signals_of stage.signals

    abbrev k : ℕ
    k = g.turns - 1

    -- there is a turn left
    left : g.turns ≡ suc k
    left = omega (arith, g.enough, g.some)

    rest_more : whole ≡ behind g.written (chain m (suc k) K (n + stage.pile.count) l
        (number (2 ^ length l) (at_hand work)))
    rest_more = g.rest ∙ ap (λ (f : ℕ). behind g.written
        (chain m f K (n + stage.pile.count) l (number (2 ^ length l) (at_hand work)))) left

    pub following_stops : K < stage.signals.count → best_up_to stage.signals.count (at_hand work) K m ≡ nothing → whole ≡ stuck
    following_stops h e =
        rest_more ∙ ap (behind g.written)
        (table_stops m k K (n + stage.pile.count) l (at_hand work) (omega (arith, signals_length stage.signals))
        (ap (λ (c : ℕ). best_up_to c (at_hand work) K m) (signals_length stage.signals) ∙ e))

    -- the final cell
    pub following_ends : stage.signals.count ≤ K → whole
        ≡ made (g.written ++ (last_cell l (number (2 ^ stage.signals.count) (at_hand work)) ∷ []))
    following_ends h =
        rest_more ∙ ap (behind g.written) (table_ends m k K (n + stage.pile.count) l (at_hand work)
        (omega (arith, signals_length stage.signals)))
        ∙ ap (λ (c : ℕ). made (g.written ++ (last_cell l (number (2 ^ c) (at_hand work)) ∷ []))) (signals_length stage.signals)

    -- one split
    module _ (s : Split) (r : ℕ) (inputs_are : s.n ≡ stage.signals.count) (more : K < stage.signals.count) (few : m ≤ most_first)
        (found : best_up_to stage.signals.count (at_hand work) K m ≡ choice r s.own s.shared)
        (q : Stage) (after : List ℕ) (w : Stepped stage (n + stage.pile.count) r s work
        q after) where
      abbrev next : ℕ
      next = n + stage.pile.count

      n_is : s.n ≡ length l
      n_is = inputs_are ∙ sym (signals_length stage.signals)

      found_here : best_up_to (length l) (at_hand work) K m ≡ choice r s.own s.shared
      found_here = ap (λ (c : ℕ). best_up_to c (at_hand work) K m) (signals_length stage.signals) ∙ found

      is_best_lem : BestUpTo (length l) K m (at_hand work) r s.own s.shared
      is_best_lem = (upto_best (length l) K (at_hand work) m r s.own s.shared).0 found_here

      signals_are : signals_of q.signals ≡ signals_after l r s.own s.shared next
      signals_are = w.signals ∙ ap (λ (c : ℕ). pick c (reads_h (bit s.own) (bit s.shared)) l
          ++ list_of r (λ t. next + t)) n_is

      count_are : q.signals.count ≡ length (signals_after l r s.own s.shared next)
      count_are = sym (signals_length q.signals) ∙ ap length signals_are

      cells_are : list_of r (d_cell s (at_hand work) l) ≡ list_of r (λ t. record {
        signals = pick (length l) (reads_d (bit s.own) (bit s.shared)) l;
        table = table_d (length l) (at_hand work) (bit s.own) (bit s.shared) t;
      })
      cells_are = ap (λ (c : ℕ). list_of r (λ t. record {
        signals = pick c (reads_d (bit s.own) (bit s.shared)) l;
        table = table_d c (at_hand work) (bit s.own) (bit s.shared) t;
      })) n_is

      -- H's number is that of the table at hand
      number_is : table_h (length l) (at_hand work) (bit s.own) (bit s.shared) r
          ≡ number (2 ^ length (signals_of q.signals)) (at_hand after)
      number_is = next-number m k K next l (at_hand work) r s.own s.shared
          ∙ number_ext (2 ^ length (signals_after l r s.own s.shared next))
          (bit_h (length l) (at_hand work) (bit s.own) (bit s.shared)) (at_hand after)
          same
          ∙ ap (λ (c : ℕ). number (2 ^ c) (at_hand after)) (ap length (sym signals_are))
        where
          same : (x : ℕ) → x < 2 ^ length (signals_after l r s.own s.shared next)
              → bit_h (length l) (at_hand work) (bit s.own) (bit s.shared) x ≡ at_hand after x
          same x g =
              ap (λ (c : ℕ). bit_h c (at_hand work) (bit s.own) (bit s.shared) x) (sym n_is)
              ∙ sym (w.table.bits x (subst (λ (c : ℕ). x < 2 ^ c) (after-inputs l r s.own s.shared next
              ∙ ap (λ (c : ℕ). size c (reads_h (bit s.own) (bit s.shared)) + r) (sym n_is)) g))

      -- what comes after the cells
      abbrev later : Made
      later = chain m k K (next + r) (signals_after l r s.own s.shared next)
          (table_h (length l) (at_hand work) (bit s.own) (bit s.shared) r)

      shorter : length (signals_after l r s.own s.shared next) + size (length l) (bit s.own) ≡ length l + r
      shorter = after-length l next is_best_lem

      pub following_shrinks : q.signals.count < stage.signals.count
      following_shrinks = omega (arith, shorter, is_best_lem.works.candidate.more, count_are, signals_length stage.signals)

      pile_count : q.pile.count ≡ stage.pile.count + r
      pile_count = w.cells.count ∙ ap (λ (c : ℕ). stage.pile.count + c) (length-list r (d_cell s (at_hand work) l))

      pub following_goes : Underway q after
      following_goes = record {
        some = omega (
          arith,
          shorter,
          is_best_lem.works.candidate.most,
          is_best_lem.works.some,
          count_are,
          more,
          signals_length stage.signals,
        );
        room = omega (arith, pile_count, following_shrinks, is_best_lem.works.most, few, g.room);
        long = omega (arith, w.table.long, g.long);
        written = g.written ++ list_of r (d_cell s (at_hand work) l);
        piled = grown_piled w.cells g.piled;
        turns = k;
        enough = omega (arith, left, g.enough, following_shrinks);
        rest = rest_more
            ∙ ap (behind g.written) (table_goes m k K next l (at_hand work) (omega (arith, signals_length stage.signals)) r
            s.own s.shared found_here)
            ∙ behind-behind g.written (list_of r (λ t. record {
              signals = pick (length l) (reads_d (bit s.own) (bit s.shared)) l;
              table = table_d (length l) (at_hand work) (bit s.own) (bit s.shared) t;
            })) later
            ∙ ap (λ (cs : List Cell). behind (g.written ++ cs) later) (sym cells_are)
            ∙ ap₂ (λ (c : List ℕ) (T : ℕ). behind (g.written ++ list_of r (d_cell s (at_hand work) l))
            (chain m k K (next + r) c T)) (sym signals_are) number_is
            ∙ ap (λ (i : ℕ). behind (g.written ++ list_of r (d_cell s (at_hand work) l))
            (chain m k K i (signals_of q.signals) (number (2 ^ length (signals_of q.signals)) (at_hand after))))
            from;
      }
        where
          from : n + stage.pile.count + r ≡ n + q.pile.count
          from = omega (arith, pile_count)

pub following_starts : (n m K : ℕ) (stage : Stage) (work : List ℕ) → work_length ≤ length work
    → Piled stage.pile []
    → 1 ≤ stage.signals.count → stage.signals.count ≤ n
    → Underway n m K (chain m n K n (signals_of stage.signals) (number (2 ^ stage.signals.count) (at_hand work))) stage work
following_starts n m K stage work long empty some room = record {
  some = some;
  room = omega (arith, empty.count);
  long = long;
  written = [];
  piled = empty;
  turns = n;
  enough = room;
  rest = sym (behind-none _)
      ∙ ap (λ (i : ℕ). behind [] (chain m n K i (signals_of stage.signals) (number (2 ^ stage.signals.count) (at_hand work)))) from
      ∙ ap (λ (c : ℕ). behind [] (chain m n K (n + stage.pile.count) (signals_of stage.signals) (number (2 ^ c) (at_hand work))))
      (sym (signals_length stage.signals));
}
  where
    from : n ≡ n + stage.pile.count
    from = omega (arith, empty.count)

-- what the code's split needs to know of the best one
pub record Sound (m : ℕ) (F : ℕ → Bool) (s : Split) (r : ℕ) : Type 0 where
  pub some : 1 ≤ r
  pub most : r ≤ most_first
  pub candidate : Candidate s.n largest_cell r s.own s.shared
  pub few : few_columns s.n F (bit s.own) (bit s.shared) (2 ^ r) ≡ true

pub split_sound : (s : Split) (c m K r : ℕ) (F : ℕ → Bool) → s.n ≡ c → K ≤ largest_cell → m ≤ most_first
    → best_up_to c F K m ≡ choice r s.own s.shared
    → Sound m F s r
split_sound s c m K r F inputs h few e =
    let b = (upto_best s.n K F m r s.own s.shared).0 (ap (λ (k : ℕ). best_up_to k F K m) inputs ∙ e) in
    let k = b.works.candidate in
    record {
      some = b.works.some;
      most = omega (arith, b.works.most);
      candidate = record {
        below_a = k.below_a;
        below_b = k.below_b;
        apart = k.apart;
        more = k.more;
        most = omega (arith, k.most);
      };
      few = (possible_iff s.n F (bit s.own) (bit s.shared) k.apart r).1 b.works.possible;
    }
