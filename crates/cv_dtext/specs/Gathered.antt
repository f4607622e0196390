-- What was gathered so far of the records behind a header: what the clauses of private functions cite.
use Rattle.std.specs.Prelude.{◌≡◌, ℕ, ◌+◌, Bool, true, false, List, ◌∷◌, [], ◌++◌, length, Result, Ok, Err}
use Rattle.std.specs.Option.{option_to_list}
use Rattle.cv_model.specs.declared.room.Room.{Room}
use Rattle.cv_model.specs.Features.{FeatureTable}
use Rattle.cv_dtext.specs.declared.options.TextError.{TextError}
use Rattle.cv_dtext.specs.declared.options.TextError.TheVariants.{NoHeader, NoGeometryColumn, Uneven, NotUtf8}
use Rattle.cv_dtext.specs.declared.options.TextError.TheVariants.{TooMany, NoMemory}
use Rattle.cv_dtext.specs.declared.gathered.Gathered.{Gathered}
use Rattle.cv_dtext.specs.Records.{Fields}
use Rattle.cv_dtext.specs.Cell.{note_on, vertices_in}
use Rattle.cv_dtext.specs.Table.{cell_at, others, feature_of, features_from, notes_from}
use Rattle.cv_dtext.specs.Refusals.{is_past, vertices_in_all, values_in_all}

-- what is gathered of the records behind a header
abbrev pub gathered_of : ℕ → List Fields → Gathered
gathered_of place records = record {
  features = features_from place 1 records;
  notes = notes_from place 1 records;
  counts = record { vertices = vertices_in_all place records; values = values_in_all place records };
}

-- what is gathered with record n
abbrev pub with_record : ℕ → ℕ → Fields → Gathered → Gathered
with_record place n fields g = record {
  features = g.features ++ feature_of place n fields ∷ [];
  notes = g.notes ++ option_to_list (note_on n (cell_at place fields));
  counts = record {
    vertices = g.counts.vertices + vertices_in (cell_at place fields);
    values = g.counts.values + length (others place fields);
  };
}

-- so much of n records is more than there is room for
abbrev pub is_full : Room → ℕ → Gathered → Bool
is_full room n g = is_past room n g.counts.vertices g.counts.values

-- what adding record n answers, and what it leaves, where with it all would be `more`
abbrev pub IsAdded : Room → ℕ → Gathered → Gathered → Result (Unit {0}) TextError → Type 0
IsAdded room n more new (Ok done) = (new ≡ more) × (is_full room n more ≡ false)
IsAdded room n more new (Err TooMany) = is_full room n more ≡ true
IsAdded room n more new (Err NoMemory) = Unit {0}
IsAdded room n more new (Err NoHeader) = ⊥
IsAdded room n more new (Err NoGeometryColumn) = ⊥
IsAdded room n more new (Err (Uneven number)) = ⊥
IsAdded room n more new (Err (NotUtf8 number)) = ⊥

-- the columns of a header, with what was gathered behind it
abbrev pub tabled : ℕ → Fields → Gathered → FeatureTable
tabled place header g = record { columns = others place header; features = g.features; notes = g.notes }
