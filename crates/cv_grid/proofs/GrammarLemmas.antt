-- The answer token by token says what the grammar says, and where a text is refused.
use Rattle.std.proofs.Common.{◌≡◌, ℕ, ◌+◌, ◌<◌, ◌≤◌, Bool, true, false, ◌==◌, if◌then◌else◌, List, [], ◌∷◌}
use Rattle.std.proofs.Common.{◌++◌, map, length, Option, Some, None, option_and_then, Result, Ok, Err, ℤ}
use Rattle.std.proofs.Common.{refl, sym, ap, ◌∙◌, subst, arith, append_assoc, append-nil, length-append}
use Rattle.std.proofs.lemmas.Bool.{ne_eqb, eqb-true, eqb-false}
use Rattle.cv_model.specs.declared.grid.Cell.{Cell}
use Rattle.cv_reading.specs.Tokens.{Token}
use Rattle.cv_number.specs.declared.fixed.Fixed.{Fixed}
use Rattle.cv_number.specs.Reader.{decimal_of}
use Rattle.cv_grid.specs.declared.error.GridError.{GridError}
use Rattle.cv_grid.specs.declared.error.GridError.TheVariants.{MissingWord, BadWord, BadNumber, TooFew}
use Rattle.cv_grid.specs.declared.error.GridError.TheVariants.{TooMany, TooLarge, NoMemory}
use Rattle.cv_grid.specs.declared.settings.Settings.{Settings}
use Rattle.cv_grid.specs.declared.word.Word.{Word}
use Rattle.cv_grid.specs.declared.header.Reading.{Reading}
use Rattle.cv_grid.specs.Tokens.{line_at}
use Rattle.cv_grid.specs.Words.{is_header_token, free_word, with_value}
use Rattle.cv_grid.specs.Cells.{cell_of}
use Rattle.cv_grid.specs.Grammar.{Entry, entry_tokens, goes_on, with_entry, Says, Spell}
use Rattle.cv_grid.specs.Refusals.{UnfitAt}
use Rattle.cv_grid.specs.Answers.{taken, behind_word, behind_value, going_on, header_from, Headed}
use Rattle.cv_grid.specs.Answers.{with_decimal, cells_from}

-- ---- the header: what the grammar says, the reader answers

-- between two entries, and behind a word
abbrev pub between : Settings → Reading
between s = record { said = s; word = None }

abbrev pub behind : Settings → Word → Reading
behind s w = record { said = s; word = Some w }

-- what a token in the place of a word gives
name_taken : (text : List ℕ) (s : Settings) (t : Token) (b : Bool) → is_header_token t.bytes ≡ b
    → taken text (between s) t
    ≡ (if b then behind_word (line_at text t.at) s (free_word s t.bytes) else Ok None)
unfolding taken
name_taken text s t b e =
    ap (λ (x : Bool). if x then behind_word (line_at text t.at) s (free_word s t.bytes) else Ok None) e

-- what a token in the place of a value gives
value_taken : (text : List ℕ) (s : Settings) (w : Word) (t : Token)
    → taken text (behind s w) t ≡ behind_value t.at (with_value w t.bytes s)
unfolding taken
value_taken text s w t = refl

-- the answer behind a right word
pub at_name : (text : List ℕ) (s : Settings) (t : Token) (ts : List Token) (o : Option Word)
    → is_header_token t.bytes ≡ true → free_word s t.bytes ≡ o
    → header_from text (t ∷ ts) (between s)
    ≡ going_on (header_from text ts) s (t ∷ ts) (behind_word (line_at text t.at) s o)
at_name text s t ts o e f =
    ap (going_on (header_from text ts) s (t ∷ ts)) (name_taken text s t true e
    ∙ ap (behind_word (line_at text t.at) s) f)

-- and behind its value
pub at_value : (text : List ℕ) (s : Settings) (w : Word) (t : Token) (ts : List Token) (o : Option Settings)
    → with_value w t.bytes s ≡ o
    → header_from text (t ∷ ts) (behind s w) ≡ going_on (header_from text ts) s (t ∷ ts) (behind_value t.at o)
at_value text s w t ts o e =
    ap (going_on (header_from text ts) s (t ∷ ts)) (value_taken text s w t ∙ ap (behind_value t.at) e)

-- a right entry is taken
entry_step : (text : List ℕ) (s t : Settings) (e : Entry) (ts : List Token) (o : Option Word)
    → is_header_token e.name.bytes ≡ true → free_word s e.name.bytes ≡ o
    → option_and_then (λ w. with_value w e.value.bytes s) o ≡ Some t
    → header_from text (e.name ∷ e.value ∷ ts) (between s) ≡ header_from text ts (between t)
entry_step text s t e ts None is f h = absurd (cc)
entry_step text s t e ts (Some w) is f h = at_name text s e.name (e.value ∷ ts) (Some w) is f
    ∙ at_value text s w e.value ts (Some t) h

-- right entries are taken
pub entries_taken : (text : List ℕ) (es : List Entry) (s u : Settings) (rest : List Token) → Says s es u
    → header_from text (entry_tokens es ++ rest) (between s) ≡ header_from text rest (between u)
entries_taken text [] s u rest says = ap (λ (x : Settings). header_from text rest (between x)) says
entries_taken text (e ∷ es) s u rest (is, t, right, says) =
    entry_step text s t e (entry_tokens es ++ rest) (free_word s e.name.bytes) is refl right
    ∙ entries_taken text es t u rest says

-- and the header ends where no header token follows
pub header_ends : (text : List ℕ) (u : Settings) (rest : List Token) → goes_on rest ≡ false
    → header_from text rest (between u) ≡ Ok (u, rest)
header_ends text u [] e = refl
header_ends text u (t ∷ ts) e = ap (going_on (header_from text ts) u (t ∷ ts)) (name_taken text u t false e)

-- ---- the header: what the reader answers, the grammar says

-- tokens that begin with right entries behind what was said
pub record Part (ts : List Token) (s said : Settings) (rest : List Token) : Type 0 where
  pub entries : List Entry
  pub tokens : ts ≡ entry_tokens entries ++ rest
  pub says : Says s entries said

-- a wrong word, and a value that doesn't fit, behind right entries
pub record WordPart (text : List ℕ) (ts : List Token) (s : Settings) (line : ℕ) : Type 0 where
  pub said : Settings
  pub name : Token
  pub rest : List Token
  pub part : Part ts s said (name ∷ rest)
  pub word : is_header_token name.bytes ≡ true
  pub refused : free_word said name.bytes ≡ None
  pub line_is : line ≡ line_at text name.at

pub record ValuePart (text : List ℕ) (ts : List Token) (s : Settings) (at : ℕ) : Type 0 where
  pub said : Settings
  pub name : Token
  pub rest : List Token
  pub part : Part ts s said (name ∷ rest)
  pub word : is_header_token name.bytes ≡ true
  pub known : Word
  pub known_is : free_word said name.bytes ≡ Some known
  pub unfit : UnfitAt said known (length text) rest at

-- what an answer says of the tokens
abbrev pub IsHeaded : List ℕ → List Token → Settings → Result Headed GridError → Type 0
IsHeaded text ts s (Ok h) = Part ts s h.0 h.1 × (goes_on h.1 ≡ false)
IsHeaded text ts s (Err (BadWord line)) = WordPart text ts s line
IsHeaded text ts s (Err (BadNumber at)) = ValuePart text ts s at
IsHeaded text ts s (Err (MissingWord w)) = ⊥
IsHeaded text ts s (Err (TooFew n)) = ⊥
IsHeaded text ts s (Err TooMany) = ⊥
IsHeaded text ts s (Err TooLarge) = ⊥
IsHeaded text ts s (Err NoMemory) = ⊥

-- no entry in front
nothing_yet : (ts : List Token) (s : Settings) → Part ts s s ts
nothing_yet ts s = record { entries = []; tokens = refl; says = refl }

-- an entry more in front
with_first : (n v : Token) (ts : List Token) (s t said : Settings) (rest : List Token)
    → is_header_token n.bytes ≡ true → with_entry s (record { name = n; value = v }) ≡ Some t
    → Part ts t said rest → Part (n ∷ v ∷ ts) s said rest
with_first n v ts s t said rest is right part = record {
  entries = (record { name = n; value = v }) ∷ part.entries;
  tokens = ap (λ (x : List Token). n ∷ v ∷ x) part.tokens;
  says = (is, t, right, part.says);
}

-- the same of what an answer says
answer_with_first : (text : List ℕ) (n v : Token) (ts : List Token) (s t : Settings)
    (r : Result Headed GridError) → is_header_token n.bytes ≡ true
    → with_entry s (record { name = n; value = v }) ≡ Some t → IsHeaded text ts t r
    → IsHeaded text (n ∷ v ∷ ts) s r
answer_with_first text n v ts s t (Ok h) is right (part, ends) =
    (with_first n v ts s t h.0 h.1 is right part, ends)
answer_with_first text n v ts s t (Err (BadWord line)) is right h = record {
  said = h.said;
  name = h.name;
  rest = h.rest;
  part = with_first n v ts s t h.said (h.name ∷ h.rest) is right h.part;
  word = h.word;
  refused = h.refused;
  line_is = h.line_is;
}
answer_with_first text n v ts s t (Err (BadNumber at)) is right h = record {
  said = h.said;
  name = h.name;
  rest = h.rest;
  part = with_first n v ts s t h.said (h.name ∷ h.rest) is right h.part;
  word = h.word;
  known = h.known;
  known_is = h.known_is;
  unfit = h.unfit;
}
answer_with_first text n v ts s t (Err (MissingWord w)) is right h = h
answer_with_first text n v ts s t (Err (TooFew k)) is right h = h
answer_with_first text n v ts s t (Err TooMany) is right h = h
answer_with_first text n v ts s t (Err TooLarge) is right h = h
answer_with_first text n v ts s t (Err NoMemory) is right h = h

-- what is known behind some tokens: between two entries, and behind a right word
abbrev HeadedBehind : List ℕ → List Token → Type 0
HeadedBehind text ts = (s : Settings) (n : Token) (w : Word) → is_header_token n.bytes ≡ true
    → free_word s n.bytes ≡ Some w → IsHeaded text (n ∷ ts) s (header_from text ts (behind s w))

-- a token in the place of a word
name_case : (text : List ℕ) (t : Token) (ts : List Token) (s : Settings) (b : Bool) (o : Option Word)
    → is_header_token t.bytes ≡ b → free_word s t.bytes ≡ o → HeadedBehind text ts
    → IsHeaded text (t ∷ ts) s
    (going_on (header_from text ts) s (t ∷ ts) (if b then behind_word (line_at text t.at) s o else Ok None))
name_case text t ts s false o e f further = (nothing_yet (t ∷ ts) s, e)
name_case text t ts s true None e f further =
    record {
      said = s;
      name = t;
      rest = ts;
      part = nothing_yet (t ∷ ts) s;
      word = e;
      refused = f;
      line_is = refl;
    }
name_case text t ts s true (Some w) e f further = further s t w e f

-- a token in the place of a value
value_case : (text : List ℕ) (n t : Token) (ts : List Token) (s : Settings) (w : Word) (o : Option Settings)
    → is_header_token n.bytes ≡ true → free_word s n.bytes ≡ Some w
    → with_value w t.bytes s ≡ o → ((u : Settings) → IsHeaded text ts u (header_from text ts (between u)))
    → IsHeaded text (n ∷ t ∷ ts) s (going_on (header_from text ts) s (t ∷ ts) (behind_value t.at o))
value_case text n t ts s w None is known e further =
    record {
      said = s;
      name = n;
      rest = t ∷ ts;
      part = nothing_yet (n ∷ t ∷ ts) s;
      word = is;
      known = w;
      known_is = known;
      unfit = (e, refl);
    }
value_case text n t ts s w (Some u) is known e further =
    let right : with_entry s (record { name = n; value = t }) ≡ Some u =
    ap (option_and_then (λ (x : Word). with_value x t.bytes s)) known ∙ e in
    answer_with_first text n t ts s u (header_from text ts (between u)) is right (further u)

-- what the answer to a header says, between two entries and behind a word
pub headed : (text : List ℕ) (ts : List Token)
    → ((s : Settings) → IsHeaded text ts s (header_from text ts (between s))) × HeadedBehind text ts
headed text [] = (
  λ s. (nothing_yet [] s, refl),
  λ s n w is known. record {
    said = s;
    name = n;
    rest = [];
    part = nothing_yet (n ∷ []) s;
    word = is;
    known = w;
    known_is = known;
    unfit = refl;
  },
)
headed text (t ∷ ts) =
    let further = headed text ts in (
      λ s. subst (λ o. IsHeaded text (t ∷ ts) s (going_on (header_from text ts) s (t ∷ ts) o))
          (sym (name_taken text s t (is_header_token t.bytes) refl))
          (name_case text t ts s (is_header_token t.bytes) (free_word s t.bytes) refl refl further.1),
      λ s n w is known. subst (λ o. IsHeaded text (n ∷ t ∷ ts) s
          (going_on (header_from text ts) s (t ∷ ts) o)) (sym (value_taken text s w t))
          (value_case text n t ts s w (with_value w t.bytes s) is known refl further.0),
    )

-- ---- the cells: what the grammar says, the reader answers

-- a decimal is taken where a cell is due
cell_step : (total : ℕ) (void : Option ℤ) (t : Token) (ts : List Token) (cells : List Cell) (v : Fixed)
    → length cells < total → decimal_of t.bytes ≡ Some v
    → cells_from total void (t ∷ ts) cells ≡ cells_from total void ts (cells ++ cell_of void v ∷ [])
cell_step total void t ts cells v room e =
    ap (λ (b : Bool). if b then Err TooMany
    else with_decimal (cells_from total void ts) void cells t.at (decimal_of t.bytes))
    (ne_eqb (length cells) total (λ h. omega arith))
    ∙ ap (with_decimal (cells_from total void ts) void cells t.at) e

-- decimals are taken as long as there are cells
pub cells_taken : (total : ℕ) (void : Option ℤ) (front rest : List Token) (ds : List Fixed)
    (cells : List Cell) → Spell front ds → length cells + length ds ≤ total
    → cells_from total void (front ++ rest) cells
    ≡ cells_from total void rest (cells ++ map (cell_of void) ds)
cells_taken total void [] rest [] cells spelt room = ap (cells_from total void rest) (sym (append-nil cells))
cells_taken total void [] rest (d ∷ ds) cells spelt room = absurd (cc)
cells_taken total void (t ∷ ts) rest [] cells spelt room = absurd (cc)
cells_taken total void (t ∷ ts) rest (d ∷ ds) cells spelt room =
    let first : decimal_of t.bytes ≡ Some d = cc in
    let more : Spell ts ds = cc in
    let grown : length (cells ++ cell_of void d ∷ []) + length ds ≤ total =
    omega (arith, length-append cells (cell_of void d ∷ [])) in
    cell_step total void t (ts ++ rest) cells d (omega arith) first
    ∙ cells_taken total void ts rest ds (cells ++ cell_of void d ∷ []) more grown
    ∙ ap (cells_from total void rest) (append_assoc cells (cell_of void d ∷ []) (map (cell_of void) ds))

-- ---- the cells: what the reader answers, the grammar says

-- some decimals, and then a token
pub record CellPart (ts : List Token) : Type 0 where
  pub front : List Token
  pub decimals : List Fixed
  pub token : Token
  pub rest : List Token
  pub tokens : ts ≡ front ++ token ∷ rest
  pub spelt : Spell front decimals

abbrev pub AreCells : ℕ → Option ℤ → List Token → List Cell → Result (List Cell) GridError → Type 0
AreCells total void ts cells (Ok cs) =
    (ds : List Fixed) × Spell ts ds × (cs ≡ cells ++ map (cell_of void) ds)
    × (length cells + length ds ≡ total)
AreCells total void ts cells (Err (BadNumber at)) =
    (p : CellPart ts) × (length cells + length p.decimals < total) × (decimal_of p.token.bytes ≡ None)
    × (at ≡ p.token.at)
AreCells total void ts cells (Err (TooFew n)) =
    (ds : List Fixed) × Spell ts ds × (n ≡ length cells + length ds) × (n < total)
AreCells total void ts cells (Err TooMany) = (p : CellPart ts) × (length cells + length p.decimals ≡ total)
AreCells total void ts cells (Err (BadWord line)) = ⊥
AreCells total void ts cells (Err (MissingWord w)) = ⊥
AreCells total void ts cells (Err TooLarge) = ⊥
AreCells total void ts cells (Err NoMemory) = ⊥

-- a token more, and its decimal
spell_with_first : (t : Token) (ts : List Token) (v : Fixed) (ds : List Fixed) → decimal_of t.bytes ≡ Some v
    → Spell ts ds → Spell (t ∷ ts) (v ∷ ds)
spell_with_first t ts v ds e spelt = cc

-- a decimal more in front
abbrev part_with_first : (t : Token) (ts : List Token) (v : Fixed) → decimal_of t.bytes ≡ Some v
    → CellPart ts → CellPart (t ∷ ts)
part_with_first t ts v e p = record {
  front = t ∷ p.front;
  decimals = v ∷ p.decimals;
  token = p.token;
  rest = p.rest;
  tokens = ap (λ (x : List Token). t ∷ x) p.tokens;
  spelt = spell_with_first t p.front v p.decimals e p.spelt;
}

-- a decimal more in front of what an answer says
cells_with_first : (total : ℕ) (void : Option ℤ) (t : Token) (ts : List Token) (cells : List Cell)
    (v : Fixed) (r : Result (List Cell) GridError) → decimal_of t.bytes ≡ Some v
    → AreCells total void ts (cells ++ cell_of void v ∷ []) r → AreCells total void (t ∷ ts) cells r
cells_with_first total void t ts cells v (Ok cs) e (ds, spelt, are, whole) = (
  v ∷ ds,
  spell_with_first t ts v ds e spelt,
  are ∙ append_assoc cells (cell_of void v ∷ []) (map (cell_of void) ds),
  omega (arith, length-append cells (cell_of void v ∷ [])),
)
cells_with_first total void t ts cells v (Err (BadNumber at)) e (p, few, none, place) =
    (part_with_first t ts v e p, omega (arith, length-append cells (cell_of void v ∷ [])), none, place)
cells_with_first total void t ts cells v (Err (TooFew n)) e (ds, spelt, found, few) = (
  v ∷ ds,
  spell_with_first t ts v ds e spelt,
  omega (arith, length-append cells (cell_of void v ∷ [])),
  few,
)
cells_with_first total void t ts cells v (Err TooMany) e (p, whole) =
    (part_with_first t ts v e p, omega (arith, length-append cells (cell_of void v ∷ [])))
cells_with_first total void t ts cells v (Err (BadWord line)) e h = h
cells_with_first total void t ts cells v (Err (MissingWord w)) e h = h
cells_with_first total void t ts cells v (Err TooLarge) e h = h
cells_with_first total void t ts cells v (Err NoMemory) e h = h

-- no decimal in front
abbrev no_front : (t : Token) (ts : List Token) → CellPart (t ∷ ts)
no_front t ts = record { front = []; decimals = []; token = t; rest = ts; tokens = refl; spelt = refl }

-- the end of the text
end_case : (total : ℕ) (void : Option ℤ) (cells : List Cell) (b : Bool) → (length cells == total) ≡ b
    → length cells ≤ total
    → AreCells total void [] cells (if b then Ok cells else Err (TooFew (length cells)))
end_case total void cells true e room = (
  [],
  refl,
  sym (append-nil cells),
  let whole : length cells ≡ total = eqb-true (length cells) total e in
      omega arith,
)
end_case total void cells false e room =
    ([], refl, omega arith, let apart = eqb-false (length cells) total e in omega arith)

-- a token where a cell is due
decimal_case : (total : ℕ) (void : Option ℤ) (t : Token) (ts : List Token) (cells : List Cell)
    (o : Option Fixed) → decimal_of t.bytes ≡ o → length cells < total
    → ((v : Fixed) → AreCells total void ts (cells ++ cell_of void v ∷ [])
    (cells_from total void ts (cells ++ cell_of void v ∷ [])))
    → AreCells total void (t ∷ ts) cells (with_decimal (cells_from total void ts) void cells t.at o)
decimal_case total void t ts cells None e room further = (no_front t ts, omega arith, e, refl)
decimal_case total void t ts cells (Some v) e room further =
    cells_with_first total void t ts cells v (cells_from total void ts (cells ++ cell_of void v ∷ [])) e
    (further v)

-- a token, where a cell is due or not
token_case : (total : ℕ) (void : Option ℤ) (t : Token) (ts : List Token) (cells : List Cell) (b : Bool)
    → (length cells == total) ≡ b → length cells ≤ total
    → ((v : Fixed) → length cells < total
    → AreCells total void ts (cells ++ cell_of void v ∷ [])
    (cells_from total void ts (cells ++ cell_of void v ∷ [])))
    → AreCells total void (t ∷ ts) cells (if b then Err TooMany
    else with_decimal (cells_from total void ts) void cells t.at (decimal_of t.bytes))
token_case total void t ts cells true e room further =
    (no_front t ts, let whole : length cells ≡ total = eqb-true (length cells) total e in omega arith)
token_case total void t ts cells false e room further =
    let apart = eqb-false (length cells) total e in
    let less : length cells < total = omega arith in
    decimal_case total void t ts cells (decimal_of t.bytes) refl less (λ v. further v less)

-- what the answer to the tokens of the cells says
pub are_cells : (total : ℕ) (void : Option ℤ) (ts : List Token) (cells : List Cell) → length cells ≤ total
    → AreCells total void ts cells (cells_from total void ts cells)
are_cells total void [] cells room = end_case total void cells (length cells == total) refl room
are_cells total void (t ∷ ts) cells room =
    token_case total void t ts cells (length cells == total) refl room
    (λ v less. are_cells total void ts (cells ++ cell_of void v ∷ [])
    (omega (arith, length-append cells (cell_of void v ∷ []))))
