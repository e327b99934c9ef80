-- Bytes put one after the other, and the text of a signal put so. Assumes nothing.
use mathlib.Core.Path.{◌≡◌, refl, sym, ap, ap₂, ◌∙◌, subst}
use mathlib.Core.Bool.{Bool, true, false, cond}
use mathlib.Core.List.{List, [], ◌∷◌, ◌++◌, append_assoc, append-nil}
use Prim.Native.Nat.{ℕ, suc, ◌+◌, ◌-◌, ◌*◌, ◌<◌, ◌≤◌}
use native.Mathlib.Omega.{arith}
use lib.Dec.{eqb}
use lib.ListN.{length, get_or, length-append}
use lib.Seq.{sets, length-sets}
use borrow.Author.Tests.{ne_eqb, lt-ltb}
use Rattle.sheets.specs.declared.kinds.Edition.{Edition}
use Rattle.sheets.specs.Edition.{IsEdition, most_records}
use Rattle.sheets.specs.Network.{Cell}
use Rattle.sheets.specs.Record.{cell_of}
use Rattle.sheets.specs.Sheet.{record_at, records, sheet_cells}
use Rattle.sheets.proofs.Places.{record_within}
use Rattle.sheets.proofs.Wiring.{cells_length}
use Rattle.printing.specs.declared.pairs.PlainCell.{PlainCell}
use Rattle.printing.specs.declared.pairs.PlainCell.TheVariants.{One, Two}
use Rattle.printing.specs.Forms.{mark_of, flips_low, flips_high}
use Rattle.printing.specs.Print.{by_sides, flipped_text, one_text, two_text, cell_text, letter_text, printed}
use Rattle.printing.specs.Printable.{Plain}
use Rattle.printing.specs.Pairs.{pair_cell}
use Rattle.printing.specs.Put.{Put, Room}
use Rattle.printing.proofs.Cells.{cell_at_lem, plain_at}
use Rattle.printing.proofs.Turns.{no_cell, cell_at, AlikeAt, turn_below, turn-cell, wired_at}

-- ---- one after the other

sets_append : (l : List ℕ) (i : ℕ) (v w : List ℕ) → sets l i (v ++ w) ≡ sets (sets l i v) (i + length v) w
sets_append l i [] w = ap (λ (k : ℕ). sets l k w) (let e : i ≡ i + 0 = omega arith in e)
sets_append l i (b ∷ v) w =
    sets_append _ (suc i) v w ∙ ap (λ (k : ℕ). sets (sets l i (b ∷ v)) k w)
    (let e : suc i + length v ≡ i + suc (length v) = omega arith in e)

pub put-none : (room : List ℕ) (p : ℕ) → Put room p [] room p
put-none room p = record { bytes = refl; next = omega arith }

put_then : {a b c : List ℕ} {p q r : ℕ} {v w : List ℕ} → Put a p v b q → Put b q w c r → Put a p (v ++ w) c r
put_then {a} {b} {c} {p} {q} {r} {v} {w} x y =
    record {
      bytes = y.bytes ∙ ap₂ (λ (l : List ℕ) (k : ℕ). sets l k w) x.bytes x.next ∙ sym (sets_append a p v w);
      next = omega (arith, x.next, y.next, length-append v w);
    }

pub put_as : {a b : List ℕ} {p q : ℕ} {v w : List ℕ} → v ≡ w → Put a p v b q → Put a p w b q
put_as {a} {b} {p} {q} e x = subst (λ (u : List ℕ). Put a p u b q) e x

-- the room stays as long
pub put-length : {a b : List ℕ} {p q : ℕ} {w : List ℕ} → Put a p w b q → length b ≡ length a
put-length {a} {b} {p} {q} {w} x = ap length x.bytes ∙ length-sets a p w

-- parts of a text, one after the other
abbrev pub join_all : List (List ℕ) → List ℕ
join_all [] = []
join_all (w ∷ ws) = w ++ join_all ws

-- some of a text is put, and these parts are left
pub record Stage (room : List ℕ) (p : ℕ) (whole : List ℕ) (rest : List (List ℕ)) (room' : List ℕ) (q : ℕ) : Type 0 where
  pub done : List ℕ
  pub put : Put room p done room' q
  pub all : done ++ join_all rest ≡ whole
  pub fits : p + length whole ≤ length room

pub next : {room room' room'' : List ℕ} {p q r : ℕ} {whole w : List ℕ} {ws : List (List ℕ)}
    → Stage room p whole (w ∷ ws) room' q → Put room' q w room'' r
    → Stage room p whole ws room'' r
next {w = w} {ws = ws} x y =
    record {
      done = x.done ++ w;
      put = put_then x.put y;
      all = append_assoc x.done w (join_all ws) ∙ x.all;
      fits = x.fits;
    }

-- where what was put is written in another way: a flip, or a byte, that is another's value
pub next-flipped : {room room' room'' : List ℕ} {p q r : ℕ} {whole : List ℕ} {ws : List (List ℕ)} {f g : Bool}
    (w : List ℕ) → f ≡ g → Stage room p whole (flipped_text g w ∷ ws) room' q → Put room' q (flipped_text f w) room'' r
    → Stage room p whole ws room'' r
next-flipped w e x y = next x (put_as (ap (λ (t : Bool). flipped_text t w) e) y)

pub next-byte : {room room' room'' : List ℕ} {p q r : ℕ} {whole : List ℕ} {ws : List (List ℕ)} {b d : ℕ} → b ≡ d
    → Stage room p whole ((d ∷ []) ∷ ws) room' q → Put room' q (b ∷ []) room'' r → Stage room p whole ws room'' r
next-byte e x y = next x (put_as (ap (λ (t : ℕ). t ∷ []) e) y)

pub has_room : {room room' : List ℕ} {p q : ℕ} {whole w : List ℕ} {ws : List (List ℕ)}
    → Stage room p whole (w ∷ ws) room' q → q + length w ≤ length room'
has_room {room} {room'} {p} {q} {whole} {w} {ws} x =
    omega (
      arith,
      x.fits,
      x.put.next,
      ap length x.put.bytes,
      length-sets room p x.done,
      length-append w
          (join_all ws),
      length-append x.done (w ++ join_all ws),
      ap length x.all,
    )

pub has_one : {room room' : List ℕ} {p q b : ℕ} {whole : List ℕ} {ws : List (List ℕ)}
    → Stage room p whole ((b ∷ []) ∷ ws) room' q → q < length room'
has_one x = omega (arith, has_room x)

pub all_put : {room room' : List ℕ} {p q : ℕ} {whole : List ℕ} → Stage room p whole [] room' q
    → Put room p whole room' q
all_put x = put_as (sym (append-nil x.done) ∙ x.all) x.put

-- ---- `!` or nothing

pub flip-room : (f : Bool) (p l : ℕ) → f ≡ true → p + length (flipped_text f []) ≤ l → p < l
flip-room true p l e h = omega arith
flip-room false p l e h = absurd (let z : ◌≡◌ {A = ℕ} 0 1 = cc in omega arith)

pub flip_yes : {f : Bool} {a b : List ℕ} {p q : ℕ} → f ≡ true → Put a p (33 ∷ []) b q → Put a p (flipped_text f []) b q
flip_yes e x = put_as (ap (λ (t : Bool). flipped_text t []) (sym e)) x

pub flip_no : {f : Bool} {a : List ℕ} {p : ℕ} → f ≡ false → Put a p (flipped_text f []) a p
flip_no {f} {a} {p} e = put_as (ap (λ (t : Bool). flipped_text t []) (sym e)) (put-none a p)

flip-first : (f : Bool) (w : List ℕ) → flipped_text f [] ++ w ≡ flipped_text f w
flip-first true w = refl
flip-first false w = refl

flip-length : (f : Bool) (w : List ℕ) → length (flipped_text f []) ≤ length (flipped_text f w)
flip-length true w = omega arith
flip-length false w = omega arith

-- ---- the cell of a signal

text_sees : (c : Cell) (v w : ℕ → List ℕ) → AlikeAt c v w → cell_text c v ≡ cell_text c w
text_sees c v w = go c.signals
  where
    go : (l : List ℕ) → ((j : ℕ) → j < length l → v (get_or l j 0) ≡ w (get_or l j 0))
        → by_sides [] one_text two_text l c.table v ≡ by_sides [] one_text two_text l c.table w
    go [] h = refl
    go (a ∷ []) h = ap (one_text c.table) (h 0 (omega arith))
    go (a ∷ b ∷ l) h = ap₂ (two_text c.table) (h 0 (omega arith)) (h 1 (omega arith))

module _ {e : Edition} {n : ℕ} {s : List ℕ} {x : ℕ} {flip : Bool} {room : List ℕ} {p : ℕ} (h : Room e n s x flip room p)
  where
    abbrev m : ℕ
    m = records e s

    abbrev text : ℕ → List ℕ
    text = printed n (sheet_cells e s m)

    pub flip_fits : p + length (flipped_text flip []) ≤ length room
    flip_fits = omega (arith, h.fits, flip-length flip (text x))

    -- `!` or nothing is put, and the parts of the text are left
    begun : {ws : List (List ℕ)} {room' : List ℕ} {q : ℕ} → text x ≡ join_all ws
        → Put room p (flipped_text flip []) room' q
        → Stage room p (flipped_text flip (text x)) ws room' q
    begun {ws} t y = record {
      done = flipped_text flip [];
      put = y;
      all = flip-first flip (join_all ws)
          ∙ ap (flipped_text flip) (sym t);
      fits = h.fits;
    }

    letter_text_lem : x < n → text x ≡ (97 + x) ∷ []
    unfolding printed
    letter_text_lem l =
        turn_below cell_text (sheet_cells e s m) n (letter_text n) x l
        ∙ ap (λ (b : Bool). cond b ((97 + x) ∷ []) []) (lt-ltb x n l)

    pub letter_parts : {room' : List ℕ} {q : ℕ} → x < n → Put room p (flipped_text flip []) room' q
        → Stage room p (flipped_text flip (text x)) (((97 + x) ∷ []) ∷ []) room' q
    letter_parts l y = begun {ws = ((97 + x) ∷ []) ∷ []} (letter_text_lem l) y

    -- what its record is asked for
    pub pair_ready : n ≤ x → IsEdition e × (x - n < most_records) × (e.size * (x - n) + e.size ≤ length s)
        × Plain (cell_of e (record_at e s (x - n)))
    pair_ready g =
        let l = h.signal in
        let q : 0 + (x - n) ≡ x - n = omega arith in (
          h.sheet.sound,
          omega (arith, h.sheet.most),
          record_within e.size (x - n) m (length s) (omega arith) h.sheet.long,
          subst (λ (k : ℕ). Plain (cell_of e (record_at e s k))) q
              (plain_at e s m 0 h.sheet.plain (x - n) (omega arith)),
        )

-- signal x is a cell's, which is c, and `!` or nothing is put before it
pub record AtCell (e : Edition) (n : ℕ) (s : List ℕ) (x : ℕ) (flip : Bool) (room : List ℕ) (p : ℕ) (c : PlainCell)
    (room' : List ℕ) (q : ℕ) : Type 0 where
  pub has : Room e n s x flip room p
  pub above : n ≤ x
  pub cell : pair_cell c ≡ cell_of e (record_at e s (x - n))
  pub flipped : Put room p (flipped_text flip []) room' q

pub at_cell : {e : Edition} {n : ℕ} {s : List ℕ} {x : ℕ} {flip : Bool} {room : List ℕ} {p : ℕ} (c : PlainCell)
    {room' : List ℕ} {q : ℕ} → Room e n s x flip room p → n ≤ x → pair_cell c ≡ cell_of e (record_at e s (x - n))
    → Put room p (flipped_text flip []) room' q → AtCell e n s x flip room p c room' q
at_cell c h a k f = record { has = h; above = a; cell = k; flipped = f }

module _ {e : Edition} {n : ℕ} {s : List ℕ} {x : ℕ} {flip : Bool} {room : List ℕ} {p : ℕ} {c : PlainCell} {room' : List ℕ}
    {q : ℕ} (k : AtCell e n s x flip room p c room' q) where
  abbrev cells : List Cell
  cells = sheet_cells e s (records e s)

  abbrev texts : ℕ → List ℕ
  texts = printed n cells

  below : x - n < length cells
  below = omega (arith, k.above, k.has.signal, cells_length e s 0 (records e s))

  the_cell : cell_at cells (x - n) ≡ pair_cell c
  the_cell =
      let q : 0 + (x - n) ≡ x - n = omega (arith, k.above) in
      cell_at_lem e s (records e s) 0 (x - n) no_cell (omega (arith, k.above, k.has.signal))
      ∙ ap (λ (j : ℕ). cell_of e (record_at e s j)) q ∙ sym k.cell

  pair_text : texts x ≡ cell_text (pair_cell c) texts
  unfolding printed
  pair_text =
      let q : x ≡ n + (x - n) = omega (arith, k.above) in
      ap texts q ∙ turn-cell cell_text text_sees e.most cells n (letter_text n) k.has.sheet.wired
      (x - n)
      below ∙ ap (λ (k : Cell). cell_text k texts) the_cell

  reads-lower : (j : ℕ) → j < length (pair_cell c).signals → get_or (pair_cell c).signals j 0 < x
  reads-lower j l =
      let a = subst (λ (d : Cell). (i : ℕ) → i < length d.signals → get_or d.signals i 0 < n + (x - n)) the_cell
      (wired_at e.most cells n k.has.sheet.wired (x - n) below) in
      omega (arith, k.above, a j l)

  text_by : {d : PlainCell} → c ≡ d → texts x ≡ cell_text (pair_cell d) texts
  text_by q = pair_text ∙ ap (λ (d : PlainCell). cell_text (pair_cell d) texts) q

  lower_by : {d : PlainCell} → c ≡ d → (j : ℕ) → j < length (pair_cell d).signals → get_or (pair_cell d).signals j 0 < x
  lower_by q = subst (λ (d : PlainCell). (j : ℕ) → j < length (pair_cell d).signals
      → get_or (pair_cell d).signals j 0 < x) q reads-lower

  -- ( , ! or not, the lower signal, the mark, ! or not, the other, )
  pub two-parts : {low high table : ℕ} → c ≡ Two low high table → Stage room p (flipped_text flip (texts x)) ((40 ∷ [])
      ∷ flipped_text (flips_low table) (texts low) ∷ (mark_of table ∷ [])
      ∷ flipped_text (flips_high table) (texts high) ∷ (41 ∷ []) ∷ []) room' q
  two-parts {low} {high} {table} two = begun k.has {ws = (40 ∷ []) ∷ flipped_text (flips_low table) (texts low)
      ∷ (mark_of table ∷ []) ∷ flipped_text (flips_high table) (texts high) ∷ (41 ∷ []) ∷ []} (text_by two) k.flipped

  -- `0` or `1`
  pub digit-parts : (b t : ℕ) {low table : ℕ} → one_text t (texts low) ≡ b ∷ [] → c ≡ One low table → table ≡ t
      → Stage room p (flipped_text flip (texts x)) ((b ∷ []) ∷ []) room' q
  digit-parts b t {low} d one z = begun k.has {ws = (b ∷ []) ∷ []}
      (text_by one ∙ ap (λ (i : ℕ). one_text i (texts low)) z ∙ d) k.flipped

  pub same_parts : {low table : ℕ} → c ≡ One low table → (table ≡ 0 → ⊥) → (table ≡ 3 → ⊥)
      → Stage room p (flipped_text flip (texts x)) (flipped_text (eqb table 1) (texts low) ∷ []) room' q
  same_parts {low} {table} one t u =
      let w = flipped_text (eqb table 1) (texts low) in
      begun k.has {ws = w ∷ []}
      (text_by one
      ∙ ap₂ (λ (a b : Bool). cond a (48 ∷ []) (cond b (49 ∷ []) w)) (ne_eqb table 0 t) (ne_eqb table 3 u)
      ∙ sym (append-nil w)) k.flipped

  -- a side's room, where its flip is written as f; the signal falls
  side_room : {y t : ℕ} {f g : Bool} {room'' : List ℕ} {r : ℕ} → y < x → x ≡ t → f ≡ g
      → r + length (flipped_text g (texts y)) ≤ length room'' → (y < t) × Room e n s y f room'' r
  side_room {y} {t} {f} {g} {room''} {r} l z e h = (
    omega arith,
    record {
      sheet = k.has.sheet;
      signal = omega (arith, k.has.signal);
      fits = subst (λ (b : Bool). r + length (flipped_text b (texts y)) ≤ length room'') (sym e) h;
    },
  )

  pub one_room : {low table t : ℕ} {f g : Bool} {room'' : List ℕ} {r : ℕ} → c ≡ One low table → x ≡ t → f ≡ g
      → r + length (flipped_text g (texts low)) ≤ length room'' → (low < t) × Room e n s low f room'' r
  one_room one = side_room (lower_by one 0 (omega arith))

  pub low_room : {low high table t : ℕ} {f g : Bool} {room'' : List ℕ} {r : ℕ} → c ≡ Two low high table → x ≡ t → f ≡ g
      → r + length (flipped_text g (texts low)) ≤ length room'' → (low < t) × Room e n s low f room'' r
  low_room two = side_room (lower_by two 0 (omega arith))

  pub high_room : {low high table t : ℕ} {f g : Bool} {room'' : List ℕ} {r : ℕ} → c ≡ Two low high table → x ≡ t → f ≡ g
      → r + length (flipped_text g (texts high)) ≤ length room'' → (high < t) × Room e n s high f room'' r
  high_room two = side_room (lower_by two 1 (omega arith))
