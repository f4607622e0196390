-- What changes of a map of layers keep.
use Rattle.std.proofs.Common.{◌≡◌, ◌∙◌, sym, ap, subst, refl, ℕ, zero, suc, ◌+◌, ◌-◌, ◌≤◌, Bool, true, false, not}
use Rattle.std.proofs.Common.{List, [], ◌∷◌, ◌++◌, length, Some, None, arith, cond, set, map, nat_lt}
use Rattle.std.specs.Prelude.{insert, remove, position, nat_eq, slice_get}
use Rattle.std.specs.Prelude.{if◌then◌else◌}
use Rattle.std.specs.List.{AllByRecursion, IsDistinct, position_or_len}
use Rattle.std.specs.Map.{lookup, keys_of}
use Rattle.std.specs.Option.{option_map_or}
use Rattle.std.proofs.lemmas.Bool.Decides.{nat_tests}
use Rattle.std.proofs.lemmas.List.{map-set}
use Rattle.std.proofs.lemmas.List.Sums.{sum_by-set, sum_by-insert, sum_by-remove, get_or-le-sum_by}
use Rattle.std.proofs.lemmas.Option.{slice_get_within, get_or_from_slice_get}
use Rattle.indexmap.specs.IndexMap.{insert_entry, move_index, set_value_at}
use Rattle.indexmap.proofs.SetLemmas.{map-insert, map-remove}
use Rattle.cv_model.specs.Layers.{Contents, Layer}
use Rattle.cv_model.specs.Edits.{total, count_features, count_vertices, count_values, cells_of}
use Rattle.cv_store.specs.declared.tally.Tally.{Tally}
use Rattle.cv_store.specs.Stores.{RevisedLayer, id_of, layer_of}
use Rattle.cv_store.specs.Tallies.{tally_of, totals_of, IsPartOf, IsExchanged}
use Rattle.cv_store.specs.Maps.{rows_of, IsLayerMap}
use Rattle.cv_store.proofs.Lists.{has, Lacks, keys_set, distinct_insert, distinct_remove, lacks_key}

abbrev pub Entry : Type 0
Entry = ℕ × RevisedLayer

-- each key is its layer's id
abbrev pub Keyed : List Entry → Type 0
Keyed es = map (λ (e : Entry). e.0) es ≡ map id_of (rows_of es)

abbrev head_or : List ℕ → ℕ → ℕ
head_or [] d = d
head_or (x ∷ xs) d = x

abbrev tail_of : List ℕ → List ℕ
tail_of [] = []
tail_of (x ∷ xs) = xs

-- ---- a place of the map and of its list

pub rows_set : (es : List Entry) (n : ℕ) (w : RevisedLayer) → rows_of (set_value_at es n w) ≡ set (rows_of es) n w
rows_set [] zero w = refl
rows_set [] (suc n) w = refl
rows_set (e ∷ es) zero w = refl
rows_set (e ∷ es) (suc n) w = ap (λ l. e.1 ∷ l) (rows_set es n w)

keys_stay : (es : List Entry) (n : ℕ) (w : RevisedLayer)
    → map (λ (e : Entry). e.0) (set_value_at es n w) ≡ map (λ (e : Entry). e.0) es
keys_stay [] n w = refl
keys_stay (e ∷ es) zero w = refl
keys_stay (e ∷ es) (suc n) w = ap (λ l. e.0 ∷ l) (keys_stay es n w)

pub layer_at : (rows : List RevisedLayer) (n : ℕ) (row : RevisedLayer) → slice_get rows n ≡ Some row
    → slice_get (map layer_of rows) n ≡ Some row.layer
layer_at [] n row h = absurd cc
layer_at (x ∷ rows) zero row h = ap (λ o. option_map_or (λ (r : RevisedLayer). Some r.layer) o None) h
layer_at (x ∷ rows) (suc n) row h = layer_at rows n row h

-- ---- counts

-- a count of all layers with another one at a place
one_set : (count : Contents → ℕ) (layers : List Layer) (n : ℕ) (old new : Layer) (a b : ℕ)
    → slice_get layers n ≡ Some old → a ≡ total count layers
    → b + count old.core.contents ≡ a + count new.core.contents → b ≡ total count (set layers n new)
one_set count layers n old new a b at is h =
    let within = slice_get_within layers n old at in
    let f : Layer → ℕ = λ (layer : Layer). count layer.core.contents in
    let s = sum_by-set f layers n new new within in
    let e = ap f (get_or_from_slice_get layers n old new at) in
    omega (arith, s, e, is, h)

one_insert : (count : Contents → ℕ) (layers : List Layer) (n : ℕ) (new : Layer) (a b : ℕ)
    → a ≡ total count layers → b + 0 ≡ a + count new.core.contents → b ≡ total count (insert layers n new)
one_insert count layers n new a b is h =
    let s = sum_by-insert (λ (layer : Layer). count layer.core.contents) layers n new in omega (arith, s, is, h)

one_remove : (count : Contents → ℕ) (layers : List Layer) (n : ℕ) (old : Layer) (a b : ℕ)
    → slice_get layers n ≡ Some old → a ≡ total count layers → b + count old.core.contents ≡ a + 0
    → b ≡ total count (remove layers n)
one_remove count layers n old a b at is h =
    let within = slice_get_within layers n old at in
    let f : Layer → ℕ = λ (layer : Layer). count layer.core.contents in
    let s = sum_by-remove f layers n old within in
    let e = ap f (get_or_from_slice_get layers n old old at) in
    omega (arith, s, e, is, h)

one_part : (count : Contents → ℕ) (layers : List Layer) (n : ℕ) (old : Layer)
    → slice_get layers n ≡ Some old → count old.core.contents ≤ total count layers
one_part count layers n old at =
    let f : Layer → ℕ = λ (layer : Layer). count layer.core.contents in
    rw (get_or_from_slice_get layers n old old at) at
    (get_or-le-sum_by f layers n old (slice_get_within layers n old at))

-- what one layer holds is a part of what all hold
pub part_of : (sums : Tally) (layers : List Layer) (n : ℕ) (old : Layer) → sums ≡ totals_of layers
    → slice_get layers n ≡ Some old → IsPartOf (tally_of old.core.contents) sums
part_of sums layers n old is at = rw is (record {
  features = one_part count_features layers n old at;
  vertices = one_part count_vertices layers n old at;
  values = one_part count_values layers n old at;
  cells = one_part cells_of layers n old at;
})

abbrev pub none : Tally
none = record { features = 0; vertices = 0; values = 0; cells = 0 }

pub counts_set : (sums later : Tally) (layers : List Layer) (n : ℕ) (old new : Layer) → sums ≡ totals_of layers
    → slice_get layers n ≡ Some old
    → IsExchanged sums (tally_of old.core.contents) (tally_of new.core.contents) later
    → later ≡ totals_of (set layers n new)
counts_set sums later layers n old new is at h =
    λ i. record {
      features = one_set count_features layers n old new sums.features later.features at
          (ap (λ (t : Tally). t.features) is) h.features i;
      vertices = one_set count_vertices layers n old new sums.vertices later.vertices at
          (ap (λ (t : Tally). t.vertices) is) h.vertices i;
      values = one_set count_values layers n old new sums.values later.values at
          (ap (λ (t : Tally). t.values) is) h.values i;
      cells = one_set cells_of layers n old new sums.cells later.cells at
          (ap (λ (t : Tally). t.cells) is) h.cells i;
    }

pub counts_insert : (sums later : Tally) (layers : List Layer) (n : ℕ) (new : Layer) → sums ≡ totals_of layers
    → IsExchanged sums none (tally_of new.core.contents) later → later ≡ totals_of (insert layers n new)
counts_insert sums later layers n new is h =
    λ i. record {
      features = one_insert count_features layers n new sums.features later.features
          (ap (λ (t : Tally). t.features) is) h.features i;
      vertices = one_insert count_vertices layers n new sums.vertices later.vertices
          (ap (λ (t : Tally). t.vertices) is) h.vertices i;
      values = one_insert count_values layers n new sums.values later.values
          (ap (λ (t : Tally). t.values) is) h.values i;
      cells = one_insert cells_of layers n new sums.cells later.cells (ap (λ (t : Tally). t.cells) is) h.cells i;
    }

pub counts_remove : (sums later : Tally) (layers : List Layer) (n : ℕ) (old : Layer) → sums ≡ totals_of layers
    → slice_get layers n ≡ Some old → IsExchanged sums (tally_of old.core.contents) none later
    → later ≡ totals_of (remove layers n)
counts_remove sums later layers n old is at h =
    λ i. record {
      features = one_remove count_features layers n old sums.features later.features at
          (ap (λ (t : Tally). t.features) is) h.features i;
      vertices = one_remove count_vertices layers n old sums.vertices later.vertices at
          (ap (λ (t : Tally). t.vertices) is) h.vertices i;
      values = one_remove count_values layers n old sums.values later.values at
          (ap (λ (t : Tally). t.values) is) h.values i;
      cells = one_remove cells_of layers n old sums.cells later.cells at (ap (λ (t : Tally). t.cells) is)
          h.cells i;
    }

-- ---- the map

pub map_set : (es : List Entry) (sums later : Tally) (n : ℕ) (old new : RevisedLayer) → IsLayerMap es sums
    → slice_get (rows_of es) n ≡ Some old → id_of new ≡ id_of old
    → IsExchanged sums (tally_of old.layer.core.contents) (tally_of new.layer.core.contents) later
    → IsLayerMap (set_value_at es n new) later
map_set es sums later n old new was at same h =
    let rows = rows_set es n new in
    let ids = ap (map id_of) rows ∙ keys_set id_of (rows_of es) n old new at same in
    record {
      keyed = keys_stay es n new ∙ was.keyed ∙ sym ids;
      distinct = subst (IsDistinct nat_eq) (sym ids) was.distinct;
      counted = counts_set sums later (map layer_of (rows_of es)) n old.layer new.layer was.counted
          (layer_at (rows_of es) n old at) h ∙ ap totals_of (sym (ap (map layer_of) rows
          ∙ map-set layer_of (rows_of es) n new));
    }

pub same_counts : (sums part : Tally) → IsExchanged sums part part sums
same_counts sums part = record { features = refl; vertices = refl; values = refl; cells = refl }

pub rows_insert : (es : List Entry) (n : ℕ) (e : Entry) → rows_of (insert es n e) ≡ insert (rows_of es) n e.1
rows_insert es n e = map-insert (λ (e : Entry). e.1) es n e

pub rows_remove : (es : List Entry) (n : ℕ) → rows_of (remove es n) ≡ remove (rows_of es) n
rows_remove es n = map-remove (λ (e : Entry). e.1) es n

pub map_insert : (es : List Entry) (sums later : Tally) (n : ℕ) (e : Entry) → IsLayerMap es sums
    → e.0 ≡ id_of e.1 → Lacks id_of (id_of e.1) (rows_of es)
    → IsExchanged sums none (tally_of e.1.layer.core.contents) later → IsLayerMap (insert es n e) later
map_insert es sums later n e was key fresh h =
    let rows = rows_insert es n e in
    let ids = ap (map id_of) rows ∙ map-insert id_of (rows_of es) n e.1 in
    record {
      keyed = map-insert (λ (e : Entry). e.0) es n e
          ∙ (λ i. insert (was.keyed i) n (key i)) ∙ sym ids;
      distinct = subst (λ l. IsDistinct nat_eq (map id_of l)) (sym rows)
          (distinct_insert id_of (rows_of es) n e.1 was.distinct fresh);
      counted = counts_insert sums later (map layer_of (rows_of es)) n e.1.layer was.counted h
          ∙ ap totals_of (sym (ap (map layer_of) rows ∙ map-insert layer_of (rows_of es) n e.1));
    }

pub map_remove : (es : List Entry) (sums later : Tally) (n : ℕ) (old : RevisedLayer) → IsLayerMap es sums
    → slice_get (rows_of es) n ≡ Some old → IsExchanged sums (tally_of old.layer.core.contents) none later
    → IsLayerMap (remove es n) later
map_remove es sums later n old was at h =
    let rows = rows_remove es n in
    let ids = ap (map id_of) rows ∙ map-remove id_of (rows_of es) n in
    record {
      keyed = map-remove (λ (e : Entry). e.0) es n ∙ ap (λ l. remove l n) was.keyed ∙ sym ids;
      distinct = subst (λ l. IsDistinct nat_eq (map id_of l)) (sym rows)
          (distinct_remove id_of (rows_of es) n was.distinct);
      counted = counts_remove sums later (map layer_of (rows_of es)) n old.layer was.counted
          (layer_at (rows_of es) n old at) h
          ∙ ap totals_of (sym (ap (map layer_of) rows ∙ map-remove layer_of (rows_of es) n));
    }

-- ---- a move

-- the entry at a place
pub entry_at : (es : List Entry) (n : ℕ) (row : RevisedLayer) → Keyed es → slice_get (rows_of es) n ≡ Some row
    → slice_get es n ≡ Some (id_of row, row)
entry_at [] n row k h = absurd cc
entry_at (e ∷ es) zero row k h =
    let is : e.1 ≡ row = cc in
    let key : e.0 ≡ id_of row = ap (λ l. head_or l 0) k ∙ ap id_of is in
    λ i. Some (key i, is i)
entry_at (e ∷ es) (suc n) row k h = entry_at es n row (ap tail_of k) h

pub moved_entries : (es : List Entry) (from to : ℕ) (row : RevisedLayer) → Keyed es
    → slice_get (rows_of es) from ≡ Some row
    → move_index es from to ≡ insert (remove es from) to (id_of row, row)
moved_entries es from to row k h = ap (λ o. option_map_or (λ x. insert (remove es from) to x) o es) (entry_at es
    from row k h)

pub map_move : (es : List Entry) (sums : Tally) (from to : ℕ) (row : RevisedLayer) → IsLayerMap es sums
    → slice_get (rows_of es) from ≡ Some row → IsLayerMap (move_index es from to) sums
map_move es sums from to row was at =
    let t = tally_of row.layer.core.contents in
    let part = part_of sums (map layer_of (rows_of es)) from row.layer was.counted
    (layer_at (rows_of es) from row at) in
    let less : Tally = record {
      features = sums.features - t.features;
      vertices = sums.vertices - t.vertices;
      values = sums.values - t.values;
      cells = sums.cells - t.cells;
    } in
    let out = map_remove es sums less from row was at (record {
      features = omega (arith, part.features);
      vertices = omega (arith, part.vertices);
      values = omega (arith, part.values);
      cells = omega (arith, part.cells);
    }) in
    let lacks = subst (Lacks id_of (id_of row)) (sym (rows_remove es from)) (lacks_key id_of (rows_of es) from row
    was.distinct at) in
    let back = map_insert (remove es from) less sums to (id_of row, row) out refl lacks (record {
      features = omega (arith, part.features);
      vertices = omega (arith, part.vertices);
      values = omega (arith, part.values);
      cells = omega (arith, part.cells);
    }) in
    subst (λ l. IsLayerMap l sums) (sym (moved_entries es from to row was.keyed at)) back

pub rows_move : (es : List Entry) (from to : ℕ) (row : RevisedLayer) → Keyed es
    → slice_get (rows_of es) from ≡ Some row
    → rows_of (move_index es from to) ≡ insert (remove (rows_of es) from) to row
rows_move es from to row k at =
    ap rows_of (moved_entries es from to row k at) ∙ rows_insert (remove es from) to (id_of row, row)
    ∙ ap (λ l. insert l to row) (rows_remove es from)

-- ---- a look-up

abbrev pub Absent : ℕ → List Entry → Type 0
Absent q es = AllByRecursion (λ (e : Entry). nat_eq q e.0 ≡ false) es

pub absent_key : (q : ℕ) (es : List Entry) → Keyed es → Lacks id_of q (rows_of es) → Absent q es
absent_key q [] k h = tt
absent_key q (e ∷ es) k h =
    let here = ap (λ l. head_or l 0) k in
    (grind (arith, nat_tests, here, h.0), absent_key q es (ap tail_of k) h.1)

pub lookup_absent : (q : ℕ) (es : List Entry) → Absent q es → lookup (nat_eq q) es ≡ None
lookup_absent q [] h = refl
lookup_absent q (e ∷ es) h = ap (λ b. cond b (Some e.1) (lookup (nat_eq q) es)) h.0 ∙ lookup_absent q es h.1

inserted : (q : ℕ) (row : RevisedLayer) (es : List Entry) → Absent q es
    → insert_entry nat_eq es q row ≡ es ++ (q, row) ∷ []
inserted q row [] h = refl
inserted q row (e ∷ es) h =
    ap (λ b. if b then (e.0, row) ∷ es else e ∷ insert_entry nat_eq es q row) h.0
    ∙ ap (λ l. e ∷ l) (inserted q row es h.1)

at_end : (q : ℕ) (es : List Entry) → Absent q es → position_or_len (nat_eq q) (keys_of es) ≡ length es
at_end q [] h = refl
at_end q (e ∷ es) h =
    ap (λ b. cond (not b) (1 + position_or_len (nat_eq q) (keys_of es)) 0) h.0
    ∙ ap (λ n. 1 + n) (at_end q es h.1) ∙ omega arith

last_is : (es : List Entry) (e : Entry) → slice_get (es ++ e ∷ []) (length es) ≡ Some e
last_is [] e = refl
last_is (x ∷ es) e = last_is es e

without_last : (es : List Entry) (e : Entry) → remove (es ++ e ∷ []) (length es) ≡ es
without_last [] e = refl
without_last (x ∷ es) e = ap (λ l. x ∷ l) (without_last es e)

-- a new entry put in, so that it stands at a place
pub placed : (q : ℕ) (row : RevisedLayer) (es : List Entry) (n : ℕ) → Absent q es
    → move_index (insert_entry nat_eq es q row) (position_or_len (nat_eq q) (keys_of es)) n
    ≡ insert es n (q, row)
placed q row es n h =
    let e : Entry = (q, row) in
    (λ i. move_index (inserted q row es h i) (at_end q es h i) n)
    ∙ ap (λ o. option_map_or (λ x. insert (remove (es ++ e ∷ []) (length es)) n x) o (es ++ e ∷ [])) (last_is es e)
    ∙ ap (λ l. insert l n e) (without_last es e)

-- the key is found where the layer's id is
or_len_alike : (q : ℕ) (es : List Entry) → Keyed es
    → position_or_len (nat_eq q) (keys_of es) ≡ position_or_len (has id_of q) (rows_of es)
or_len_alike q [] k = refl
or_len_alike q (e ∷ es) k =
    let here = ap (λ l. head_or l 0) k in
    let test : nat_eq q e.0 ≡ has id_of q e.1 = ap (nat_eq q) here ∙ turned q (id_of e.1) in
    λ i. cond (not (test i)) (1 + or_len_alike q es (ap tail_of k) i) 0
  where
    turned : (a b : ℕ) → nat_eq a b ≡ nat_eq b a
    turned a b = by (nat_eq a b) (nat_eq b a) refl refl
      where
        by : (x y : Bool) → nat_eq a b ≡ x → nat_eq b a ≡ y → nat_eq a b ≡ nat_eq b a
        by true true h g = h ∙ sym g
        by false false h g = h ∙ sym g
        by true false h g = grind (arith, nat_tests, h, g)
        by false true h g = grind (arith, nat_tests, h, g)

lengths_alike : (es : List Entry) → length (keys_of es) ≡ length (rows_of es)
lengths_alike [] = refl
lengths_alike (e ∷ es) = ap suc (lengths_alike es)

pub position_alike : (q : ℕ) (es : List Entry) → Keyed es
    → position (nat_eq q) (keys_of es) ≡ position (has id_of q) (rows_of es)
position_alike q es k = λ i. cond (nat_lt (or_len_alike q es k i) (lengths_alike es i)) (Some (or_len_alike q es k
    i)) None
