-- The loop over the tokens of the cells.
use Rattle.std.proofs.Common.{◌≡◌, ℕ, ◌+◌, ◌-◌, ◌*◌, ◌<◌, ◌≤◌, Bool, true, false, ◌==◌, if◌then◌else◌}
use Rattle.std.proofs.Common.{List, [], ◌∷◌}
use Rattle.std.proofs.Common.{◌++◌, length, take, drop, get_or, Option, None, Ok, Err, ℤ, pos}
use Rattle.std.proofs.Common.{refl, sym, ap, ◌∙◌, subst}
use Rattle.std.proofs.Common.{arith, length-drop, length-append, get_or-drop, eq-eqb}
use Rattle.std.proofs.lemmas.List.{drop_all}
use Rattle.std.proofs.lemmas.Bool.{ne_eqb}
use Rattle.cv_model.specs.declared.grid.Cell.{Cell}
use Rattle.cv_reading.specs.Tokens.{cut}
use Rattle.cv_number.specs.Reader.{decimal_of}
use Rattle.cv_number.specs.declared.fixed.Fixed.TheVariants.{Value}
use Rattle.cv_grid.specs.declared.error.GridError.TheVariants.{BadNumber, TooFew, TooMany}
use Rattle.cv_grid.specs.declared.value.Spelt.{Spelt}
use Rattle.cv_grid.specs.Tokens.{byte_kind}
use Rattle.cv_reading.specs.Space.{is_space}
use Rattle.cv_grid.specs.Scanning.{front_len, IsFront, IsShort, CellsAlong}
use Rattle.cv_grid.specs.Cells.{cell_of}
use Rattle.cv_grid.specs.Answers.{with_decimal, cells_from}
use Rattle.cv_grid.proofs.ScanLemmas.{tokens_at, white_on, token_on, token_from_len}
use Rattle.cv_grid.proofs.DigitLemmas.{digits_front}

-- no way at all
pub cells_here : (text : List ℕ) (at total : ℕ) (void : Option ℤ) (cells : List Cell) → at ≤ length text
    → length cells ≤ total → CellsAlong text at total void cells at cells
cells_here text at total void cells within few = record {
  further = omega arith;
  within = within;
  few = few;
  same = refl;
}

-- white space at the offset
pub cells_white : (text : List ℕ) (start total : ℕ) (void : Option ℤ) (old : List Cell) (at : ℕ)
    (cells : List Cell)
    → CellsAlong text start total void old at cells → at < length text
    → true ≡ is_space (get_or text at 0) → CellsAlong text start total void old (at + 1) cells
cells_white text start total void old at cells along h e = record {
  further = let on = along.further in omega arith;
  within = omega arith;
  few = along.few;
  same = along.same ∙ ap (λ ts. cells_from total void ts cells) (white_on text at h (sym e));
}

-- the answer at a token
at_token : (text : List ℕ) (start total : ℕ) (void : Option ℤ) (old : List Cell) (at : ℕ)
    (cells : List Cell)
    → CellsAlong text start total void old at cells → at < length text
    → false ≡ is_space (get_or text at 0) → (t : Bool) → (length cells == total) ≡ t
    → cells_from total void (tokens_at text start) old
    ≡ (if t then Err TooMany
    else with_decimal (cells_from total void (tokens_at text (at + front_len (drop at text)))) void cells at
    (decimal_of (take (front_len (drop at text)) (drop at text))))
at_token text start total void old at cells along h e t same =
    along.same
    ∙ ap (λ ts. cells_from total void ts cells) (token_on text at h (sym e))
    ∙ ap
    (λ (b : Bool). if b then Err TooMany
    else with_decimal (cells_from total void (tokens_at text (at + front_len (drop at text)))) void cells at
    (decimal_of (take (front_len (drop at text)) (drop at text))))
    same

-- a token where no cell is due
pub cells_many : (text : List ℕ) (start total : ℕ) (void : Option ℤ) (old : List Cell) (at : ℕ)
    (cells : List Cell)
    → CellsAlong text start total void old at cells → at < length text
    → false ≡ is_space (get_or text at 0) → length cells ≡ total
    → cells_from total void (tokens_at text start) old ≡ Err TooMany
cells_many text start total void old at cells along h e full =
    at_token text start total void old at cells along h e true (eq-eqb (length cells) total full)

-- a token that is no decimal
pub cells_bad : (text : List ℕ) (start total : ℕ) (void : Option ℤ) (old : List Cell) (at : ℕ)
    (cells : List Cell)
    → CellsAlong text start total void old at cells → at < length text
    → false ≡ is_space (get_or text at 0) → (length cells ≡ total → ⊥)
    → decimal_of (take (front_len (drop at text)) (drop at text)) ≡ None
    → cells_from total void (tokens_at text start) old ≡ Err (BadNumber at)
cells_bad text start total void old at cells along h e room none =
    at_token text start total void old at cells along h e false (ne_eqb (length cells) total room)
    ∙ ap (with_decimal (cells_from total void (tokens_at text (at + front_len (drop at text)))) void cells
    at) none

-- a token that is a cell
pub cells_more : (text : List ℕ) (start total : ℕ) (void : Option ℤ) (old : List Cell) (at : ℕ)
    (cells : List Cell)
    (s : Spelt) → CellsAlong text start total void old at cells → at < length text
    → false ≡ is_space (get_or text at 0) → (length cells ≡ total → ⊥) → IsFront (drop at text) s
    → CellsAlong text start total void old (at + s.len) (cells ++ cell_of void s.value ∷ [])
cells_more text start total void old at cells s along h e room front = record {
  further = let on = along.further in omega arith;
  within = let inside = front.within in omega (arith, length-drop at text);
  few = let few = along.few in omega (arith, length-append cells (cell_of void s.value ∷ []));
  same =
      at_token text start total void old at cells along h e false (ne_eqb (length cells) total room)
      ∙ ap (λ n. with_decimal (cells_from total void (tokens_at text (at + n))) void cells at
      (decimal_of (take n (drop at text)))) (sym front.len)
      ∙ ap (with_decimal (cells_from total void (tokens_at text (at + s.len))) void cells at) front.value;
}

-- one to three digits before a space are a cell, and the space is passed over too
pub cells_short : (text : List ℕ) (start total : ℕ) (void : Option ℤ) (old : List Cell) (at : ℕ)
    (cells : List Cell) (end n : ℕ) (z : ℤ) → CellsAlong text start total void old at cells
    → (length cells ≡ total → ⊥) → IsShort text at end n → z ≡ pos (1000000 * n)
    → CellsAlong text start total void old (end + 1) (cells ++ cell_of void (Value z) ∷ [])
cells_short text start total void old at cells end n z along room short is =
    let len = end - at in
    let some = short.some in
    let within = short.within in
    let whole : at + len ≡ end = omega arith in
    let space : is_space (get_or (drop at text) len 0) ≡ true =
    ap is_space (get_or-drop at text len 0 ∙ ap (λ k. get_or text k 0) whole) ∙ short.space in
    let front = digits_front (drop at text) n len z short.digits (λ e. omega arith) (λ h. space) is in
    let first = token_from_len text at (omega arith) (let as_long = front.len in omega arith) in
    let more = cells_more text start total void old at cells (record { value = Value z; len = len }) along
    (omega arith) (sym first) room front in
    let added = cells ++ cell_of void (Value z) ∷ [] in
    cells_white text start total void old end added
    (subst (λ k. CellsAlong text start total void old k added) whole more) within (sym short.space)

-- one way behind the other
pub cells_on : (text : List ℕ) (start total : ℕ) (void : Option ℤ) (old : List Cell) (at : ℕ)
    (cells : List Cell) (next : ℕ) (all : List Cell) → CellsAlong text start total void old at cells
    → CellsAlong text at total void cells next all → CellsAlong text start total void old next all
cells_on text start total void old at cells next all along further = record {
  further = let on = along.further in let more = further.further in omega arith;
  within = further.within;
  few = further.few;
  same = along.same ∙ further.same;
}

-- the end of the text
at_end : (text : List ℕ) (start total : ℕ) (void : Option ℤ) (old : List Cell) (at : ℕ)
    (cells : List Cell)
    → CellsAlong text start total void old at cells → length text ≤ at
    → (t : Bool) → (length cells == total) ≡ t
    → cells_from total void (tokens_at text start) old ≡ (if t then Ok cells else Err (TooFew (length cells)))
at_end text start total void old at cells along h t same =
    along.same
    ∙ ap (λ bs. cells_from total void (cut byte_kind at bs) cells) (drop_all at text h)
    ∙ ap (λ (b : Bool). if b then Ok cells else Err (TooFew (length cells))) same

-- the end behind the last cell
pub cells_whole : (text : List ℕ) (start total : ℕ) (void : Option ℤ) (old : List Cell) (at : ℕ)
    (cells : List Cell)
    → CellsAlong text start total void old at cells → length text ≤ at
    → length cells ≡ total → cells_from total void (tokens_at text start) old ≡ Ok cells
cells_whole text start total void old at cells along h full =
    at_end text start total void old at cells along h true (eq-eqb (length cells) total full)

-- the end before the last cell
pub cells_few : (text : List ℕ) (start total : ℕ) (void : Option ℤ) (old : List Cell) (at : ℕ)
    (cells : List Cell)
    → CellsAlong text start total void old at cells → length text ≤ at
    → (length cells ≡ total → ⊥)
    → cells_from total void (tokens_at text start) old ≡ Err (TooFew (length cells))
cells_few text start total void old at cells along h room =
    at_end text start total void old at cells along h false (ne_eqb (length cells) total room)
