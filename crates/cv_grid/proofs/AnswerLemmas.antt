-- The answer to a text is the grid that the grammar spells, or the refusal that its first wrong token gives.
use Rattle.std.proofs.Common.{◌≡◌, ◌↔◌, ℕ, ◌*◌, ◌≤◌, Bool, true, false, ◌==◌, if◌then◌else◌, List, [], ◌∷◌}
use Rattle.std.proofs.Common.{◌++◌, length, Option, Some, None, Result, Ok, Err, IfOk, rules, ℤ, refl, sym}
use Rattle.std.proofs.Common.{ap, ◌∙◌, subst, arith, append-nil, eq-eqb}
use Rattle.std.proofs.lemmas.Bool.{ne_eqb}
use Rattle.cv_model.specs.Grids.{CellGrid}
use Rattle.cv_model.specs.declared.grid.Cell.{Cell}
use Rattle.cv_reading.specs.Tokens.{Token}
use Rattle.cv_number.specs.declared.fixed.Fixed.{Fixed}
use Rattle.cv_number.specs.Reader.{decimal_of}
use Rattle.cv_grid.specs.declared.error.GridError.{GridError}
use Rattle.cv_grid.specs.declared.error.GridError.TheVariants.{MissingWord, BadWord, BadNumber, TooFew}
use Rattle.cv_grid.specs.declared.error.GridError.TheVariants.{TooMany, TooLarge, NoMemory}
use Rattle.cv_grid.specs.declared.error.GridWord.{GridWord}
use Rattle.cv_grid.specs.declared.settings.Settings.{Settings}
use Rattle.cv_grid.specs.declared.layout.Layout.{Layout}
use Rattle.cv_grid.specs.declared.word.Word.{Word}
use Rattle.cv_grid.specs.Tokens.{tokens_of}
use Rattle.cv_grid.specs.Words.{nothing_said}
use Rattle.cv_grid.specs.Layouts.{layout_of, is_large}
use Rattle.cv_grid.specs.Cells.{void_number}
use Rattle.cv_grid.specs.Grammar.{Begins, IsHeader, IsLaid, Spell, Spells, cells_of, grid_with}
use Rattle.cv_grid.specs.Refusals.{UnfitAt, OfWord, OfCell, IsRefused}
use Rattle.cv_grid.specs.Answers.{Headed, at_start, header_from, with_decimal, cells_from, grid_behind}
use Rattle.cv_grid.specs.Answers.{grid_laid, grid_headed, grid_of}
use Rattle.cv_grid.proofs.GrammarLemmas.{between, behind, at_name, at_value, entries_taken, header_ends}
use Rattle.cv_grid.proofs.GrammarLemmas.{Part, IsHeaded, headed, cells_taken, AreCells, are_cells}

-- ---- what the grammar says is answered

-- right entries are taken
begins_taken : (text : List ℕ) (said : Settings) (rest : List Token) → Begins text said rest
    → header_from text (tokens_of text) at_start ≡ header_from text rest (between said)
begins_taken text said rest b =
    ap (λ ts. header_from text ts at_start) b.tokens
    ∙ entries_taken text b.entries nothing_said said rest b.says

-- a whole header is read
header_taken : (text : List ℕ) (said : Settings) (rest : List Token) → IsHeader text said rest
    → header_from text (tokens_of text) at_start ≡ Ok (said, rest)
header_taken text said rest h = begins_taken text said rest h.begins ∙ header_ends text said rest h.ends

-- behind a whole header
behind_header : (room : ℕ) (text : List ℕ) (said : Settings) (rest : List Token)
    (lo : Result Layout GridWord) → IsHeader text said rest → layout_of said ≡ lo
    → grid_of room text ≡ grid_laid room said rest lo
unfolding grid_of
behind_header room text said rest lo h e = ap (grid_headed room) (header_taken text said rest h)
    ∙ ap (grid_laid room said rest) e

-- behind a right one
behind_layout : (room : ℕ) (text : List ℕ) (said : Settings) (l : Layout) (values : List Token)
    → IsLaid room text said l values
    → grid_of room text ≡ grid_behind l (cells_from (l.cols * l.rows) (void_number said.nodata) values [])
behind_layout room text said l values h =
    behind_header room text said values (Ok l) h.header h.layout_is
    ∙ ap (λ (b : Bool). if b then Err TooLarge
    else grid_behind l (cells_from (l.cols * l.rows) (void_number said.nodata) values [])) h.fits

-- and behind some of its cells
behind_cells : (room : ℕ) (text : List ℕ) (said : Settings) (l : Layout) (front rest : List Token)
    (ds : List Fixed) → IsLaid room text said l (front ++ rest) → Spell front ds
    → length ds ≤ l.cols * l.rows
    → grid_of room text ≡ grid_behind l
    (cells_from (l.cols * l.rows) (void_number said.nodata) rest (cells_of said ds))
behind_cells room text said l front rest ds h spelt room_left =
    behind_layout room text said l (front ++ rest) h
    ∙ ap (grid_behind l) (cells_taken (l.cols * l.rows) (void_number said.nodata) front rest ds [] spelt
    (omega arith))

-- as many cells as decimals
length_cells : (said : Settings) (ds : List Fixed) → length (cells_of said ds) ≡ length ds
length_cells said [] = refl
length_cells said (d ∷ ds) = let more = length_cells said ds in omega arith

-- a text that spells a grid is read as that grid
spelt_answered : (room : ℕ) (text : List ℕ) (g : CellGrid) → Spells room text g → grid_of room text ≡ Ok g
spelt_answered room text g s =
    let total = s.layout.cols * s.layout.rows in
    let all = subst (IsLaid room text s.said s.layout) (sym (append-nil s.values)) s.laid in
    let whole = s.whole in
    let full = eq-eqb (length (cells_of s.said s.decimals)) total (length_cells s.said s.decimals ∙ whole) in
    behind_cells room text s.said s.layout s.values [] s.decimals all s.spelt (omega arith)
    ∙ ap (λ (b : Bool). grid_behind s.layout (if b then Ok (cells_of s.said s.decimals)
    else Err (TooFew (length (cells_of s.said s.decimals))))) full
    ∙ ap Ok (sym s.grid_is)

-- a value that doesn't fit is refused at its place
unfit_answered : (text : List ℕ) (s : Settings) (w : Word) (ts : List Token) (at : ℕ)
    → UnfitAt s w (length text) ts at → header_from text ts (behind s w) ≡ Err (BadNumber at)
unfit_answered text s w [] at h = ap (λ n. Err (BadNumber n)) (sym h)
unfit_answered text s w (v ∷ ts) at (e, place) = at_value text s w v ts None e
    ∙ ap (λ n. Err (BadNumber n)) (sym place)

-- a refusal in the header
refused_header : (room : ℕ) (text : List ℕ) (e : GridError)
    → header_from text (tokens_of text) at_start ≡ Err e → grid_of room text ≡ Err e
unfolding grid_of
refused_header room text e h = ap (grid_headed room) h

-- at a token, no cell being left or one
at_cell : (room : ℕ) (text : List ℕ) (said : Settings) (l : Layout) (front rest : List Token)
    (token : Token) (ds : List Fixed) (b : Bool)
    → IsLaid room text said l (front ++ token ∷ rest) → Spell front ds → length ds ≤ l.cols * l.rows
    → (length ds == l.cols * l.rows) ≡ b
    → grid_of room text
    ≡ grid_behind l
    (if b then Err TooMany
    else with_decimal (cells_from (l.cols * l.rows) (void_number said.nodata) rest)
    (void_number said.nodata) (cells_of said ds) token.at (decimal_of token.bytes))
at_cell room text said l front rest token ds b h spelt room_left e =
    let void = void_number said.nodata in
    let answer = λ (t : Bool). grid_behind l (if t then Err TooMany
    else with_decimal (cells_from (l.cols * l.rows) void rest) void (cells_of said ds) token.at
    (decimal_of token.bytes)) in
    behind_cells room text said l front (token ∷ rest) ds h spelt room_left
    ∙ ap answer (ap (λ n. n == l.cols * l.rows) (length_cells said ds) ∙ e)

-- each refusal is answered
refused_answered : (room : ℕ) (text : List ℕ) (e : GridError) → IsRefused room text e
    → grid_of room text ≡ Err e
refused_answered room text (MissingWord w) h =
    behind_header room text h.said h.rest (Err w) h.header h.missing
refused_answered room text (BadWord line) h =
    refused_header room text (BadWord line)
    (begins_taken text h.said (h.name ∷ h.rest) h.begins
    ∙ at_name text h.said h.name h.rest None h.word h.refused ∙ ap (λ n. Err (BadWord n)) (sym h.line_is))
refused_answered room text (BadNumber at) (OfWord h) =
    refused_header room text (BadNumber at)
    (begins_taken text h.said (h.name ∷ h.rest) h.begins
    ∙ at_name text h.said h.name h.rest (Some h.known) h.word h.known_is
    ∙ unfit_answered text h.said h.known h.rest at h.unfit)
refused_answered room text (BadNumber at) (OfCell h) =
    let few = h.few in
    at_cell room text h.said h.layout h.front h.rest h.token h.decimals false h.laid h.spelt (omega arith)
    (ne_eqb (length h.decimals) (h.layout.cols * h.layout.rows) (λ q. omega arith))
    ∙ ap (λ o. grid_behind h.layout
    (with_decimal (cells_from (h.layout.cols * h.layout.rows) (void_number h.said.nodata) h.rest)
    (void_number h.said.nodata) (cells_of h.said h.decimals) h.token.at o)) h.none
    ∙ ap (λ n. Err (BadNumber n)) (sym h.place)
refused_answered room text (TooFew found) h =
    let total = h.layout.cols * h.layout.rows in
    let cells = cells_of h.said h.decimals in
    let few = h.few in
    let is = h.found_is in
    let all = subst (IsLaid room text h.said h.layout) (sym (append-nil h.values)) h.laid in
    let count = length_cells h.said h.decimals in
    behind_cells room text h.said h.layout h.values [] h.decimals all h.spelt (omega arith)
    ∙ ap (λ (b : Bool). grid_behind h.layout (if b then Ok cells else Err (TooFew (length cells))))
    (ne_eqb (length cells) total (λ q. omega arith))
    ∙ ap (λ n. Err (TooFew n)) (count ∙ sym is)
refused_answered room text TooMany h =
    let whole = h.whole in
    at_cell room text h.said h.layout h.front h.rest h.token h.decimals true h.laid h.spelt (omega arith)
    (eq-eqb (length h.decimals) (h.layout.cols * h.layout.rows) whole)
refused_answered room text TooLarge h =
    behind_header room text h.said h.rest (Ok h.layout) h.header h.layout_is
    ∙ ap (λ (b : Bool). if b then Err TooLarge
    else grid_behind h.layout
    (cells_from (h.layout.cols * h.layout.rows) (void_number h.said.nodata) h.rest [])) h.large
refused_answered room text NoMemory h = absurd h

-- ---- what is answered, the grammar says

-- an answer is what the grammar says of the text
abbrev IsRight : ℕ → List ℕ → Result CellGrid GridError → Type 0
IsRight room text (Ok g) = Spells room text g
IsRight room text (Err e) = IsRefused room text e

begins_of : (text : List ℕ) (said : Settings) (rest : List Token)
    → Part (tokens_of text) nothing_said said rest → Begins text said rest
begins_of text said rest p = record { entries = p.entries; tokens = p.tokens; says = p.says }

-- the answer behind a right header
cells_right : (room : ℕ) (text : List ℕ) (said : Settings) (l : Layout) (values : List Token)
    → IsLaid room text said l values → (r : Result (List Cell) GridError)
    → AreCells (l.cols * l.rows) (void_number said.nodata) values [] r → IsRight room text (grid_behind l r)
cells_right room text said l values laid (Ok cs) (ds, spelt, are, whole) = record {
  said = said;
  layout = l;
  values = values;
  laid = laid;
  decimals = ds;
  spelt = spelt;
  whole = omega arith;
  grid_is = ap (grid_with l) are;
}
cells_right room text said l values laid (Err (BadNumber at)) (p, few, none, place) = OfCell (record {
  said = said;
  layout = l;
  front = p.front;
  decimals = p.decimals;
  token = p.token;
  rest = p.rest;
  laid = subst (IsLaid room text said l) p.tokens laid;
  spelt = p.spelt;
  few = omega arith;
  none = none;
  place = place;
})
cells_right room text said l values laid (Err (TooFew n)) (ds, spelt, found, few) = record {
  said = said;
  layout = l;
  values = values;
  decimals = ds;
  laid = laid;
  spelt = spelt;
  found_is = omega arith;
  few = few;
}
cells_right room text said l values laid (Err TooMany) (p, whole) = record {
  said = said;
  layout = l;
  front = p.front;
  decimals = p.decimals;
  token = p.token;
  rest = p.rest;
  laid = subst (IsLaid room text said l) p.tokens laid;
  spelt = p.spelt;
  whole = omega arith;
}
cells_right room text said l values laid (Err (BadWord line)) h = absurd h
cells_right room text said l values laid (Err (MissingWord w)) h = absurd h
cells_right room text said l values laid (Err TooLarge) h = absurd h
cells_right room text said l values laid (Err NoMemory) h = absurd h

-- the answer behind a layout, too large or not
size_right : (room : ℕ) (text : List ℕ) (said : Settings) (l : Layout) (rest : List Token) (b : Bool)
    → IsHeader text said rest → layout_of said ≡ Ok l → is_large room l ≡ b
    → IsRight room text (if b then Err TooLarge
    else grid_behind l (cells_from (l.cols * l.rows) (void_number said.nodata) rest []))
size_right room text said l rest true header e large =
    record { said = said; rest = rest; header = header; layout = l; layout_is = e; large = large }
size_right room text said l rest false header e fits =
    cells_right room text said l rest (record { header = header; layout_is = e; fits = fits })
    (cells_from (l.cols * l.rows) (void_number said.nodata) rest [])
    (are_cells (l.cols * l.rows) (void_number said.nodata) rest [] (omega arith))

-- the answer behind a whole header
layout_right : (room : ℕ) (text : List ℕ) (said : Settings) (rest : List Token)
    (lo : Result Layout GridWord) → IsHeader text said rest → layout_of said ≡ lo
    → IsRight room text (grid_laid room said rest lo)
layout_right room text said rest (Err w) header e =
    record { said = said; rest = rest; header = header; missing = e }
layout_right room text said rest (Ok l) header e =
    size_right room text said l rest (is_large room l) header e refl

-- the answer to the whole text
header_right : (room : ℕ) (text : List ℕ) (r : Result Headed GridError)
    → IsHeaded text (tokens_of text) nothing_said r → IsRight room text (grid_headed room r)
header_right room text (Ok h) (part, ends) =
    layout_right room text h.0 h.1 (layout_of h.0)
    (record { begins = begins_of text h.0 h.1 part; ends = ends }) refl
header_right room text (Err (BadWord line)) h = record {
  said = h.said;
  name = h.name;
  rest = h.rest;
  begins = begins_of text h.said (h.name ∷ h.rest) h.part;
  word = h.word;
  refused = h.refused;
  line_is = h.line_is;
}
header_right room text (Err (BadNumber at)) h = OfWord (record {
  said = h.said;
  name = h.name;
  rest = h.rest;
  begins = begins_of text h.said (h.name ∷ h.rest) h.part;
  word = h.word;
  known = h.known;
  known_is = h.known_is;
  unfit = h.unfit;
})
header_right room text (Err (MissingWord w)) h = absurd h
header_right room text (Err (TooFew n)) h = absurd h
header_right room text (Err TooMany) h = absurd h
header_right room text (Err TooLarge) h = absurd h
header_right room text (Err NoMemory) h = absurd h

-- the answer is what the grammar says
right : (room : ℕ) (text : List ℕ) → IsRight room text (grid_of room text)
unfolding grid_of
right room text = header_right room text (header_from text (tokens_of text) at_start)
    ((headed text (tokens_of text)).0 nothing_said)

-- ---- the theorem, both ways

-- a text is read as a grid exactly where it spells it
pub grid_spelt : (room : ℕ) (text : List ℕ) (g : CellGrid) → (grid_of room text ≡ Ok g) ↔ Spells room text g
grid_spelt room text g = (λ e. subst (IsRight room text) e (right room text), spelt_answered room text g)

-- and refused exactly where the rule of the refusal says
pub grid_refused : (room : ℕ) (text : List ℕ) (e : GridError)
    → (grid_of room text ≡ Err e) ↔ IsRefused room text e
grid_refused room text e = (λ q. subst (IsRight room text) q (right room text), refused_answered room text e)

-- what was answered was spelt, where it is a grid
pub spelt_if : (room : ℕ) (text : List ℕ) (r : Result CellGrid GridError)
    → ((r ≡ Err NoMemory → ⊥) → r ≡ grid_of room text) → IfOk r (Spells room text)
spelt_if room text (Ok g) same = (grid_spelt room text g).0 (sym (same (λ e. cc)))
spelt_if room text (Err e) same = search rules

-- ---- the exits of the code

-- a refusal in the header
pub at_header : (room : ℕ) (text : List ℕ) (e : GridError)
    → header_from text (tokens_of text) at_start ≡ Err e → Err e ≡ grid_of room text
at_header room text e h = sym (refused_header room text e h)

-- a whole header
pub at_layout : (room : ℕ) (text : List ℕ) (s : Settings) (ts : List Token) (lo : Result Layout GridWord)
    → header_from text (tokens_of text) at_start ≡ Ok (s, ts) → lo ≡ layout_of s
    → grid_of room text ≡ grid_laid room s ts lo
unfolding grid_of
at_layout room text s ts lo h e = ap (grid_headed room) h ∙ ap (grid_laid room s ts) (sym e)

-- a header that lays out the cells
pub at_size : (room : ℕ) (text : List ℕ) (s : Settings) (ts : List Token) (l : Layout) (b : Bool)
    → header_from text (tokens_of text) at_start ≡ Ok (s, ts) → Ok l ≡ layout_of s
    → b ≡ is_large room l → grid_of room text
    ≡ (if b then Err TooLarge else grid_behind l (cells_from (l.cols * l.rows) (void_number s.nodata) ts []))
at_size room text s ts l b h e large =
    at_layout room text s ts (Ok l) h e
    ∙ ap (λ (t : Bool). if t then Err TooLarge
    else grid_behind l (cells_from (l.cols * l.rows) (void_number s.nodata) ts [])) (sym large)

-- a right header, and what was read of its cells
pub at_cells : (room : ℕ) (text : List ℕ) (s : Settings) (ts : List Token) (l : Layout) (total : ℕ)
    (void : Option ℤ) (r : Result (List Cell) GridError)
    → header_from text (tokens_of text) at_start ≡ Ok (s, ts) → Ok l ≡ layout_of s → false ≡ is_large room l
    → total ≡ l.cols * l.rows → void ≡ void_number s.nodata
    → cells_from total void ts [] ≡ r → grid_of room text ≡ grid_behind l r
at_cells room text s ts l total void r h e fits count nodata cells =
    at_size room text s ts l false h e fits
    ∙ ap (λ n. grid_behind l (cells_from n (void_number s.nodata) ts [])) (sym count)
    ∙ ap (λ v. grid_behind l (cells_from total v ts [])) (sym nodata)
    ∙ ap (grid_behind l) cells
