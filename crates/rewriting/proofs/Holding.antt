-- A record held as a cell is the network's cell; a sheet's cells, one record more. Assumes nothing.
use mathlib.Core.Path.{◌≡◌, sym, ap, ap₂, ◌∙◌}
use mathlib.Core.List.{List, [], ◌∷◌, ◌++◌}
use Prim.Native.Nat.{ℕ, zero, suc, ◌+◌, ◌-◌, ◌*◌, ◌^◌, ◌<◌, ◌≤◌}
use native.Mathlib.Nat.{add-zero, zero-add}
use native.Mathlib.Numerals.{add-one}
use native.Mathlib.Omega.{arith}
use lib.ListN.{length, get_or, take, drop}
use lib.Pow.{pow_mono}
use Rattle.bits.proofs.Numbers.{number_ext}
use Rattle.bits.proofs.Lists.{list_ext}
use Rattle.tables.specs.declared.cell.CellTable.{CellTable}
use Rattle.tables.specs.Table.{table_bit}
use Rattle.tables.specs.Cells.{cell_words, held_table, table_number}
use Rattle.tables.proofs.CellTables.{words_joined}
use Rattle.sheets.specs.declared.kinds.Edition.{Edition}
use Rattle.sheets.specs.Network.{Cell}
use Rattle.sheets.specs.Edition.{largest_cell}
use Rattle.sheets.specs.Record.{byte_at, cell_bit, cell_of}
use Rattle.sheets.specs.Sheet.{record_at, cells_from, sheet_cells}
use Rattle.sheets.specs.Held.{network_cell}
use Rattle.runs.specs.Running.{Runnable}
use Rattle.runs.proofs.Runs.{table-room, table-part}

make : List ℕ → ℕ → Cell
make l t = record { signals = l; table = t }

-- the bytes of a record behind its start
abbrev pub behind : Edition → List ℕ → List ℕ
behind e b = take (length b - e.start) (drop e.start b)

pub held_cell : (e : Edition) (b : List ℕ) → Runnable e b → (signals : List ℕ) (table : CellTable)
    → ((j : ℕ) → j < byte_at b 0 → get_or signals j 0 ≡ byte_at b (j + 1)) → table
    ≡ held_table (byte_at b 0) (table_bit (behind e b))
    → network_cell (record { k = byte_at b 0; signals = signals; table = table }) ≡ cell_of e (byte_at b)
unfolding cell_of make
held_cell e b w signals table s q =
    let k = byte_at b 0 in
    let few = w.readable.few in
    let room : 2 ^ k ≤ 64 * cell_words = omega (
      arith,
      pow_mono {i = k} {j = largest_cell}
          (omega (arith, few, w.sound.eight)),
    ) in
    let at : (x : ℕ) → x < 2 ^ k → table_bit (behind e b) x ≡ cell_bit e (byte_at b) x =
    λ x h. table-part e b x (omega (arith, table-room e w.sound k x few h, w.long)) in
    ap₂ make (list_ext k (λ j. get_or signals j 0) (λ j. byte_at b (j + 1)) s)
    (ap (λ (c : CellTable). table_number c) q ∙ words_joined cell_words k (table_bit (behind e b)) room
    ∙ number_ext (2 ^ k) (table_bit (behind e b)) (cell_bit e (byte_at b)) at)

module _ (e : Edition) (s : List ℕ) where
  cells_next : (i m : ℕ) → cells_from e s i (suc m) ≡ cells_from e s i m ++ (cell_of e (record_at e s (i + m)) ∷ [])
  unfolding cells_from
  cells_next i zero = ap (λ (k : ℕ). cell_of e (record_at e s k) ∷ []) (sym (add-zero i))
  cells_next i (suc m) =
      let q : suc i + m ≡ i + suc m = omega arith in
      ap (λ (cs : List Cell). cell_of e (record_at e s i) ∷ cs)
      (cells_next (suc i) m ∙ ap (λ (k : ℕ). cells_from e s (suc i) m ++ (cell_of e (record_at e s k) ∷ [])) q)

  pub cells_more : (m : ℕ) → sheet_cells e s (m + 1) ≡ sheet_cells e s m ++ (cell_of e (record_at e s m) ∷ [])
  cells_more m =
      ap (sheet_cells e s) (add-one m) ∙ cells_next 0 m
      ∙ ap (λ (k : ℕ). sheet_cells e s m ++ (cell_of e (record_at e s k) ∷ [])) (zero-add m)
