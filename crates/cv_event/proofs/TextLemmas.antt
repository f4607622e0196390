-- What two journals with one text have in common.
use Rattle.std.proofs.Common.{◌≡◌, ◌∙◌, sym, ap, subst, refl, ℕ, ◌+◌, ◌^◌, ◌<◌, ◌≤◌, List, [], ◌∷◌, ◌++◌, append_assoc}
use Rattle.std.proofs.Common.{arith, length, map, flat_map, Option, Some, None, is_some, Bool, false}
use Rattle.std.specs.Prelude.{codes, decimal}
use Rattle.std.specs.List.{AllByRecursion, cons_option}
use Rattle.std.specs.Str.{bytes_eq}
use Rattle.std.specs.Str.Parse.{AllDigits}
use Rattle.std.proofs.lemmas.Bool.{true≢false, false≢true}
use Rattle.std.proofs.lemmas.Fmt.{decimal_is_IsNumeral}
use Rattle.std.proofs.lemmas.List.{append-nil}
use Rattle.cv_model.specs.declared.edit.Edit.{Edit}
use Rattle.cv_model.specs.declared.edit.Edit.TheVariants.{RemoveLayer}
use Rattle.cv_event.specs.declared.entry.Act.{Act}
use Rattle.cv_event.specs.declared.entry.Act.TheVariants as act
use Rattle.cv_event.specs.declared.entry.Entry.{Entry}
use Rattle.cv_event.specs.declared.refused.Refused.{Refused}
use Rattle.cv_event.specs.Lines.{act_words, edits_with, entry_line, entry_lines, refused_line, last_line}
use Rattle.cv_event.specs.Lines.{reason_word, journal_text}
use Rattle.cv_event.specs.Readings.{words_of_line, read_line, number, entry_in, refused_in, with_edit, entry_with}
use Rattle.cv_event.specs.Readings.{IsLong, FitsEntry, FitsRefused}
use Rattle.cv_event.specs.TextLaws.{edit_of, all_edits, TextTellsJournal, TextAndEditsTellJournal}
use Rattle.cv_event.proofs.ReadingLemmas.{line_words, decimal_plain, decimal_read, long, act_plain}
use Rattle.cv_event.proofs.ReadingLemmas.{reason_plain, line_tells_entry, line_tells_refused}

some_pair : {A B : Type 0} (a c : A) (b d : B) → ◌≡◌ {A = Option (A × B)} (Some (a, b)) (Some (c, d)) → (a ≡ c) × (b ≡ d)
some_pair {A} {B} a c b d e =
    let same : ◌≡◌ {A = A × B} (a, b) (c, d) = cc in
    (ap (λ (r : A × B). r.0) same, ap (λ (r : A × B). r.1) same)

first_same : (v w : List ℕ) (vs ws : List (List ℕ)) → v ∷ vs ≡ w ∷ ws → v ≡ w
first_same v w vs ws e = cc

third_same : (u v a b c d : List ℕ) → u ∷ a ∷ b ∷ [] ≡ v ∷ c ∷ d ∷ [] → b ≡ d
third_same u v a b c d e = cc

-- the first of some words is this one
abbrev first_is : List ℕ → List (List ℕ) → Bool
first_is word [] = false
first_is word (first ∷ words) = bytes_eq word first

-- ---- the lines behind the entries

abbrev tail_of : List Refused → ℕ → ℕ → List ℕ
tail_of refused entries images = flat_map refused_line refused ++ last_line entries images

-- the words of the last line, and those of a refused command's
last_words : (n k : ℕ) → IsLong n → IsLong k
    → words_of_line (last_line n k) ≡ Some (codes "end" ∷ decimal n ∷ decimal k ∷ [], [])
last_words n k small few =
    ap words_of_line (sym (append-nil (last_line n k)))
    ∙ line_words (codes "end") (decimal n ∷ decimal k ∷ []) [] refl (decimal_plain n small, (decimal_plain k few, tt))

refused_words : (r : Refused) (rest : List ℕ) → FitsRefused r
    → words_of_line (refused_line r ++ rest)
    ≡ Some (codes "refused" ∷ decimal r.line ∷ decimal r.seen ∷ reason_word r.reason ∷ [], rest)
refused_words r rest f =
    line_words (codes "refused") (decimal r.line ∷ decimal r.seen ∷ reason_word r.reason ∷ []) rest refl
    (decimal_plain r.line (long r.line f.0), (decimal_plain r.seen f.1, (reason_plain r.reason, tt)))

-- the first of the lines behind the entries doesn't begin with a number
no_number : (p : List Refused) (n k : ℕ) → AllByRecursion FitsRefused p → IsLong n → IsLong k
    → (first : List ℕ) (words : List (List ℕ)) (rest : List ℕ)
    → words_of_line (tail_of p n k) ≡ Some (first ∷ words, rest) → AllDigits 10 first → ⊥
no_number [] n k all small few first words rest e digits =
    let same = some_pair (codes "end" ∷ decimal n ∷ decimal k ∷ []) (first ∷ words) [] rest (sym (last_words n k small few) ∙ e) in
    let end : first ≡ codes "end" = first_same _ _ _ _ (sym same.0) in
    omega (arith, (subst (AllDigits 10) end digits).0)
no_number (r ∷ p) n k all small few first words rest e digits =
    let behind = flat_map refused_line p ++ last_line n k in
    let read = sym (refused_words r behind all.0) ∙ ap words_of_line (sym (append_assoc (refused_line r) (flat_map refused_line p) (last_line n k))) ∙ e in
    let same = some_pair (codes "refused" ∷ decimal r.line ∷ decimal r.seen ∷ reason_word r.reason ∷ []) (first ∷ words) behind rest read in
    let letters : first ≡ codes "refused" = first_same _ _ _ _ (sym same.0) in
    omega (arith, (subst (AllDigits 10) letters digits).0)

same_tail : (p q : List Refused) (n m k l : ℕ) → AllByRecursion FitsRefused p → AllByRecursion FitsRefused q
    → IsLong n → IsLong m → IsLong k → IsLong l → tail_of p n k ≡ tail_of q m l → (p ≡ q) × (k ≡ l)
same_tail [] [] n m k l all each a b c d e =
    let same = some_pair (codes "end" ∷ decimal n ∷ decimal k ∷ []) (codes "end" ∷ decimal m ∷ decimal l ∷ []) [] []
    (sym (last_words n k a c) ∙ ap words_of_line e ∙ last_words m l b d) in
    (refl, sym (decimal_read k c) ∙ ap number (third_same _ _ _ _ _ _ same.0) ∙ decimal_read l d)
same_tail [] (s ∷ q) n m k l all each a b c d e =
    let behind = flat_map refused_line q ++ last_line m l in
    let read = sym (last_words n k a c) ∙ ap words_of_line (e ∙ append_assoc (refused_line s) (flat_map refused_line q) (last_line m l)) ∙ refused_words s behind each.0 in
    absurd (true≢false (ap (first_is (codes "end")) (some_pair _ _ _ _ read).0))
same_tail (r ∷ p) [] n m k l all each a b c d e =
    let behind = flat_map refused_line p ++ last_line n k in
    let read = sym (refused_words r behind all.0) ∙ ap words_of_line (sym (append_assoc (refused_line r) (flat_map refused_line p) (last_line n k)) ∙ e) ∙ last_words m l b d in
    absurd (false≢true (ap (first_is (codes "end")) (some_pair _ _ _ _ read).0))
same_tail (r ∷ p) (s ∷ q) n m k l all each a b c d e =
    let behind = flat_map refused_line p ++ last_line n k in
    let after = flat_map refused_line q ++ last_line m l in
    let one = append_assoc (refused_line r) (flat_map refused_line p) (last_line n k) in
    let other = append_assoc (refused_line s) (flat_map refused_line q) (last_line m l) in
    let same = some_pair r s behind after (sym (line_tells_refused r behind all.0) ∙ ap (read_line refused_in) (sym one ∙ e ∙ other) ∙ line_tells_refused s after each.0) in
    let rest = same_tail p q n m k l all.1 each.1 a b c d same.1 in
    (λ i. same.0 i ∷ rest.0 i, rest.1)

-- ---- the entries

-- some edit
abbrev some_edit : Edit
some_edit = RemoveLayer 0

-- an edit in the place of another leaves the count of edits
edits_same : (e : Edit) (k : ℕ) (a : Act) → edits_with k (with_edit e a) ≡ edits_with k a
edits_same e k (act.Edit d v) = refl
edits_same e k (act.View c view) = refl
edits_same e k (act.Start c j) = refl
edits_same e k (act.Look j at hit) = refl
edits_same e k (act.Deliver j at fate) = refl
edits_same e k (act.Compose j) = refl
edits_same e k (act.Finish j) = refl
edits_same e k (act.Fail j) = refl
edits_same e k (act.Cancel j) = refl
edits_same e k (act.Preview j bits) = refl
edits_same e k (act.Save c j) = refl

edits_most : (k : ℕ) (a : Act) → edits_with k a ≤ k + 1
edits_most k (act.Edit d v) = omega arith
edits_most k (act.View c view) = omega arith
edits_most k (act.Start c j) = omega arith
edits_most k (act.Look j at hit) = omega arith
edits_most k (act.Deliver j at fate) = omega arith
edits_most k (act.Compose j) = omega arith
edits_most k (act.Finish j) = omega arith
edits_most k (act.Fail j) = omega arith
edits_most k (act.Cancel j) = omega arith
edits_most k (act.Preview j bits) = omega arith
edits_most k (act.Save c j) = omega arith

-- an act is an edit whatever edit is in its place, and has its own one back
kind_same : (e : Edit) (a : Act) → is_some (edit_of (with_edit e a)) ≡ is_some (edit_of a)
kind_same e (act.Edit d v) = refl
kind_same e (act.View c view) = refl
kind_same e (act.Start c j) = refl
kind_same e (act.Look j at hit) = refl
kind_same e (act.Deliver j at fate) = refl
kind_same e (act.Compose j) = refl
kind_same e (act.Finish j) = refl
kind_same e (act.Fail j) = refl
kind_same e (act.Cancel j) = refl
kind_same e (act.Preview j bits) = refl
kind_same e (act.Save c j) = refl

own_edit : (d e : Edit) → Some d ≡ Some e → e ≡ d
own_edit d e h = cc

edit_put : (a : Act) (e : Edit) → edit_of a ≡ Some e → with_edit e a ≡ a
edit_put (act.Edit d v) e h = ap (λ x. act.Edit x v) (own_edit d e h)
edit_put (act.View c view) e h = refl
edit_put (act.Start c j) e h = refl
edit_put (act.Look j at hit) e h = refl
edit_put (act.Deliver j at fate) e h = refl
edit_put (act.Compose j) e h = refl
edit_put (act.Finish j) e h = refl
edit_put (act.Fail j) e h = refl
edit_put (act.Cancel j) e h = refl
edit_put (act.Preview j bits) e h = refl
edit_put (act.Save c j) e h = refl

edit_left : (a : Act) (e : Edit) → edit_of a ≡ None → with_edit e a ≡ a
edit_left (act.Edit d v) e h = absurd cc
edit_left (act.View c view) e h = refl
edit_left (act.Start c j) e h = refl
edit_left (act.Look j at hit) e h = refl
edit_left (act.Deliver j at fate) e h = refl
edit_left (act.Compose j) e h = refl
edit_left (act.Finish j) e h = refl
edit_left (act.Fail j) e h = refl
edit_left (act.Cancel j) e h = refl
edit_left (act.Preview j bits) e h = refl
edit_left (act.Save c j) e h = refl

-- an entry's line is no line behind the entries
no_entry : (place edits : ℕ) (x : Entry) (rest : List ℕ) (p : List Refused) (n k : ℕ) → IsLong place → IsLong edits
    → FitsEntry x → AllByRecursion FitsRefused p → IsLong n → IsLong k
    → entry_line place edits x ++ rest ≡ tail_of p n k → ⊥
no_entry place edits x rest p n k long_place long_edits f all small few e =
    no_number p n k all small few (decimal place) (decimal x.caller ∷ act_words edits x.act) rest
    (ap words_of_line (sym e)
    ∙ line_words (decimal place) (decimal x.caller ∷ act_words edits x.act) rest (decimal_plain place long_place)
    (decimal_plain x.caller (long x.caller f.0), act_plain edits x.act long_edits f.1))
    (decimal_is_IsNumeral place long_place).0.1

-- what two lists of entries, numbered alike, have in common where their lines are the same
abbrev Alike : List Entry → List Entry → List Refused → List Refused → ℕ → ℕ → Type 0
Alike xs ys p q k l = ((e : Edit) → map (entry_with e) xs ≡ map (entry_with e) ys) × (p ≡ q) × (k ≡ l)

pub record Fits (place edits : ℕ) (xs : List Entry) : Type 0 where
  pub entries : AllByRecursion FitsEntry xs
  pub places : place + length xs ≤ 2 ^ 64
  pub counts : edits < place

fits_place : (place edits : ℕ) (x : Entry) (xs : List Entry) → Fits place edits (x ∷ xs) → IsLong place
fits_place place edits x xs f = omega (arith, f.places)

fits_edits : (place edits : ℕ) (x : Entry) (xs : List Entry) → Fits place edits (x ∷ xs)
    → IsLong (edits_with edits x.act)
fits_edits place edits x xs f = omega (arith, f.places, f.counts, edits_most edits x.act)

fits_more : (place edits : ℕ) (x : Entry) (xs : List Entry) → Fits place edits (x ∷ xs)
    → Fits (place + 1) (edits_with edits x.act) xs
fits_more place edits x xs f = record {
  entries = f.entries.1;
  places = omega (arith, f.places);
  counts = omega (arith, f.counts, edits_most edits x.act);
}

same_entries : (xs ys : List Entry) (place edits : ℕ) (p q : List Refused) (n m k l : ℕ) → Fits place edits xs
    → Fits place edits ys → AllByRecursion FitsRefused p → AllByRecursion FitsRefused q
    → IsLong n → IsLong m → IsLong k → IsLong l
    → entry_lines place edits xs ++ tail_of p n k ≡ entry_lines place edits ys ++ tail_of q m l
    → Alike xs ys p q k l
same_entries [] [] place edits p q n m k l f g all each a b c d t =
    let rest = same_tail p q n m k l all each a b c d t in
    (λ e. refl, rest.0, rest.1)
same_entries [] (y ∷ ys) place edits p q n m k l f g all each a b c d t =
    let count = edits_with edits y.act in
    absurd (no_entry place count y (entry_lines (place + 1) count ys ++ tail_of q m l) p n k (fits_place place edits y ys g) (fits_edits place edits y ys g) g.entries.0 all a c (sym (t ∙ append_assoc (entry_line place count y) (entry_lines (place + 1) count ys) (tail_of q m l))))
same_entries (x ∷ xs) [] place edits p q n m k l f g all each a b c d t =
    let count = edits_with edits x.act in
    absurd (no_entry place count x (entry_lines (place + 1) count xs ++ tail_of p n k) q m l (fits_place place edits x xs f) (fits_edits place edits x xs f) f.entries.0 each b d (sym (append_assoc (entry_line place count x) (entry_lines (place + 1) count xs) (tail_of p n k)) ∙ t))
same_entries (x ∷ xs) (y ∷ ys) place edits p q n m k l f g all each a b c d t =
    let count = edits_with edits x.act in
    let tally = edits_with edits y.act in
    let behind = entry_lines (place + 1) count xs ++ tail_of p n k in
    let after = entry_lines (place + 1) tally ys ++ tail_of q m l in
    let texts : entry_line place count x ++ behind ≡ entry_line place tally y ++ after =
    sym (append_assoc (entry_line place count x) (entry_lines (place + 1) count xs) (tail_of p n k)) ∙ t
    ∙ append_assoc (entry_line place tally y) (entry_lines (place + 1) tally ys) (tail_of q m l) in
    let same : (e : Edit) → (entry_with e x ≡ entry_with e y) × (behind ≡ after) = λ e.
    some_pair (entry_with e x) (entry_with e y) behind after
    (sym (line_tells_entry e place count x behind (fits_place place edits x xs f) (fits_edits place edits x xs f) f.entries.0)
    ∙ ap (read_line (entry_in e)) texts
    ∙ line_tells_entry e place tally y after (fits_place place edits y ys g) (fits_edits place edits y ys g) g.entries.0) in
    let counts : count ≡ tally =
    sym (edits_same some_edit edits x.act) ∙ ap (λ (entry : Entry). edits_with edits entry.act) (same some_edit).0
    ∙ edits_same some_edit edits y.act in
    let rest = same_entries xs ys (place + 1) count p q n m k l (fits_more place edits x xs f)
    (subst (λ k. Fits (place + 1) k ys) (sym counts) (fits_more place edits y ys g)) all each a b c d
    ((same some_edit).1 ∙ ap (λ k. entry_lines (place + 1) k ys ++ tail_of q m l) (sym counts)) in
    (λ e. λ i. (same e).0 i ∷ rest.0 e i, rest.1, rest.2)

pub text_tells_journal : TextTellsJournal
unfolding journal_text
text_tells_journal xs ys p q k l f g t =
    same_entries xs ys 1 0 p q (length xs) (length ys) k l (fits xs f.entries f.count) (fits ys g.entries g.count)
    f.commands g.commands f.count g.count f.files g.files t
  where
    fits : (xs : List Entry) → AllByRecursion FitsEntry xs → IsLong (length xs) → Fits 1 0 xs
    fits xs all few = record { entries = all; places = omega (arith, few); counts = omega arith }

-- ---- with the edits

-- an entry has its own edit back
entry_put : (x : Entry) (e : Edit) → edit_of x.act ≡ Some e → entry_with e x ≡ x
entry_put x e h = ap (λ a. record { caller = x.caller; act = a }) (edit_put x.act e h)

entry_left : (x : Entry) (e : Edit) → edit_of x.act ≡ None → entry_with e x ≡ x
entry_left x e h = ap (λ a. record { caller = x.caller; act = a }) (edit_left x.act e h)

-- two entries that are alike with any edit in the place of their own are both edits or neither is
kinds_same : (x y : Entry) (e : Edit) → entry_with e x ≡ entry_with e y
    → is_some (edit_of x.act) ≡ is_some (edit_of y.act)
kinds_same x y e h =
    sym (kind_same e x.act) ∙ ap (λ (entry : Entry). is_some (edit_of entry.act)) h ∙ kind_same e y.act

all_more : (x : Entry) (xs : List Entry) (o : Option Edit) → edit_of x.act ≡ o
    → all_edits (x ∷ xs) ≡ cons_option o (all_edits xs)
all_more x xs o h = ap (λ o. cons_option o (all_edits xs)) h

same_first : (x y : Entry) (xs ys : List Entry) (o r : Option Edit) → edit_of x.act ≡ o → edit_of y.act ≡ r
    → ((e : Edit) → entry_with e x ≡ entry_with e y) → all_edits (x ∷ xs) ≡ all_edits (y ∷ ys)
    → (x ≡ y) × (all_edits xs ≡ all_edits ys)
same_first x y xs ys None None h g same e =
    (sym (entry_left x some_edit h) ∙ same some_edit ∙ entry_left y some_edit g, sym (all_more x xs None h) ∙ e ∙ all_more y ys None g)
same_first x y xs ys None (Some d) h g same e =
    absurd (false≢true (sym (ap is_some h) ∙ kinds_same x y some_edit (same some_edit) ∙ ap is_some g))
same_first x y xs ys (Some c) None h g same e =
    absurd (true≢false (sym (ap is_some h) ∙ kinds_same x y some_edit (same some_edit) ∙ ap is_some g))
same_first x y xs ys (Some c) (Some d) h g same e =
    let edits = first_rest c d (all_edits xs) (all_edits ys) (sym (all_more x xs (Some c) h) ∙ e ∙ all_more y ys (Some d) g) in
    (sym (entry_put x c h) ∙ same c ∙ entry_put y c (g ∙ ap Some (sym edits.0)), edits.1)
  where
    first_rest : (c d : Edit) (cs ds : List Edit) → c ∷ cs ≡ d ∷ ds → (c ≡ d) × (cs ≡ ds)
    first_rest c d cs ds e = (cc, cc)

same_journal : (xs ys : List Entry) → ((e : Edit) → map (entry_with e) xs ≡ map (entry_with e) ys)
    → all_edits xs ≡ all_edits ys → xs ≡ ys
same_journal [] [] same edits = refl
same_journal [] (y ∷ ys) same edits = absurd (none y ys (same some_edit))
  where
    none : (y : Entry) (ys : List Entry) → [] ≡ entry_with some_edit y ∷ map (entry_with some_edit) ys → ⊥
    none y ys e = absurd cc
same_journal (x ∷ xs) [] same edits = absurd (none x xs (same some_edit))
  where
    none : (x : Entry) (xs : List Entry) → entry_with some_edit x ∷ map (entry_with some_edit) xs ≡ [] → ⊥
    none x xs e = absurd cc
same_journal (x ∷ xs) (y ∷ ys) same edits =
    let one = same_first x y xs ys (edit_of x.act) (edit_of y.act) refl refl (λ e. (parts e (same e)).0) edits in
    let rest = same_journal xs ys (λ e. (parts e (same e)).1) one.1 in
    λ i. one.0 i ∷ rest i
  where
    parts : (e : Edit) → map (entry_with e) (x ∷ xs) ≡ map (entry_with e) (y ∷ ys) → (entry_with e x ≡ entry_with e y) × (map (entry_with e) xs ≡ map (entry_with e) ys)
    parts e h = (cc, cc)

pub text_and_edits_tell_journal : TextAndEditsTellJournal
text_and_edits_tell_journal xs ys p q k l f g edits t =
    let same = text_tells_journal xs ys p q k l f g t in
    (same_journal xs ys same.0 edits, same.1, same.2)
