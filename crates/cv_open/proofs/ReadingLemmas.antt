-- How readings are put together.
use Rattle.std.proofs.Common.{◌≡◌, ℕ, zero, suc, ◌≤◌, ◌<◌, Bool, true, false, List, [], ◌∷◌, ◌++◌, map, length, Option, Some, None, Vec, Result, Ok, Err, IsTrue, refl, ap, sym, subst, inl, inr, append-nil, arith, ◌∙◌}
use Rattle.std.proofs.lemmas.List.{map-append, append_assoc}
use Rattle.cv_outside.specs.Counts.{Rose}
use Rattle.cv_outside.specs.Seen.{ShelfSeen, ShelfStands}
use Rattle.cv_open.specs.declared.ends.End.{End}
use Rattle.cv_open.specs.declared.ends.End.TheVariants.{Done, NoMemory, Usage, BadProject, BadData, BadScript, ReadFault, WriteFault, Missing}
use Rattle.cv_outside.specs.Whole.{IsUnread, UnreadAsks, UnreadCause}
use Rattle.cv_outside.specs.declared.ends.Unread.{Unread}
use Rattle.cv_outside.specs.declared.ends.Unread.TheVariants as unread
use Rattle.cv_open.specs.Readings.{Asked, FilesFound, Reading, Reads, only, behind, present, file_of, going_on, ◌>>=◌, AreOf, LeadsTo, IsReadAs, StandsFor, IsSaid}

-- a count that rose behind a call has risen since before it
risen : (old half new : ℕ) → old ≤ half → Rose half new → Rose old new
risen old half new le (inl more) = inl (omega arith)
risen old half new le (inr most) = inr most

-- what a shelf that tells has; else the file that was found
abbrev pub pick : Bool → (List ℕ → Option (List ℕ)) → Option (List ℕ) → List ℕ → Option (List ℕ)
pick true files file name = files name
pick false files file name = file

picked : (tells : Bool) (files : List ℕ → Option (List ℕ)) (file : Option (List ℕ)) (name : List ℕ) → (IsTrue tells → file ≡ files name) → pick tells files file name ≡ file
picked true files file name same = sym (same refl)
picked false files file name same = refl

-- what all reads find, where the first finds this
abbrev pub first_found : Bool → (List ℕ → Option (List ℕ)) → Option (List ℕ) → FilesFound → FilesFound
first_found tells files file later zero = pick tells files file
first_found tells files file later (suc n) = later n

first_are : (tells : Bool) (files : List ℕ → Option (List ℕ)) (file : Option (List ℕ)) (later : FilesFound)
    → (IsTrue tells → (n : ℕ) (name : List ℕ) → later n name ≡ files name)
    → IsTrue tells → (n : ℕ) (name : List ℕ) → first_found tells files file later n name ≡ files name
first_are true files file later are t zero name = refl
first_are true files file later are t (suc n) name = are t n name
first_are false files file later are t n name = absurd (cc)

-- files of a shelf behind a call are those before it
are_old : (old new : ShelfSeen) → ShelfStands old new → (later : FilesFound) → AreOf new later → AreOf old later
are_old old new stands later are t n name = are (subst IsTrue (sym stands.told) t) n name ∙ stands.files t name

-- one name is asked, and this found
pub one_read : (a : Asked) (file : Option (List ℕ)) (old new : ShelfSeen) → ShelfStands old new
    → (IsTrue old.tells → file ≡ old.files a.name) → (IsTrue old.tells → new.asked ≡ old.asked ++ a.name ∷ [])
    → LeadsTo (file_of a) (only (present a.which file)) old new
one_read a file old new stands same asked = record {
  names = a ∷ [];
  gives = λ later are. (
    first_found old.tells old.files file later,
    first_are old.tells old.files file later (are_old old new stands later are),
    ap (λ (f : Option (List ℕ)). record { asked = a ∷ []; given = present a.which f; later = later })
        (picked old.tells old.files file a.name same),
  );
  asked = asked;
}

-- nothing is asked
pub none_read : {X : Type 0} (all : Reads X) (old new : ShelfSeen) → ShelfStands old new
    → (IsTrue old.tells → new.asked ≡ old.asked) → LeadsTo all all old new
none_read all old new stands same = record {
  names = [];
  gives = λ later are. (later, are_old old new stands later are, refl);
  asked = λ t. same t ∙ sym (append-nil old.asked);
}

-- a shelf on which no call was made stands
pub shelf_stays : (shelf : ShelfSeen) → ShelfStands shelf shelf
shelf_stays shelf = record { told = refl; files = λ t q. refl; faults = omega arith; misses = omega arith }

-- nothing is asked of a shelf on which no call was made
pub stays : {X : Type 0} (all : Reads X) (shelf : ShelfSeen) → LeadsTo all all shelf shelf
stays all shelf = none_read all shelf shelf (shelf_stays shelf) (λ t. refl)

-- a shelf stands behind two calls
pub stands_on : (old half new : ShelfSeen) → ShelfStands old half → ShelfStands half new → ShelfStands old new
stands_on old half new first second = record {
  told = second.told ∙ first.told;
  files = λ t q. second.files (subst IsTrue (sym first.told) t) q ∙ first.files t q;
  faults = omega (arith, first.faults, second.faults);
  misses = omega (arith, first.misses, second.misses);
}

-- some reads, and then others
pub leads_on : {X : Type 0} (all mid rest : Reads X) (old half new : ShelfSeen)
    → ShelfStands old half → LeadsTo all mid old half → LeadsTo mid rest half new → LeadsTo all rest old new
leads_on all mid rest old half new stands first second = record {
  names = first.names ++ second.names;
  gives = λ later are.
      let s = second.gives later are in
      let f = first.gives s.0 s.1 in (
        f.0,
        f.1,
        f.2 ∙ ap (behind first.names) s.2
            ∙ ap (λ (l : List Asked). record { asked = l; given = (rest later).given; later = (rest later).later })
            (sym (append_assoc first.names second.names (rest later).asked)),
      );
  asked = λ t.
      second.asked (subst IsTrue (sym stands.told) t)
      ∙ ap (λ (l : List (List ℕ)). l ++ map (λ a. a.name) second.names) (first.asked t)
      ∙ append_assoc old.asked (map (λ a. a.name) first.names) (map (λ a. a.name) second.names)
      ∙ ap (λ (l : List (List ℕ)). old.asked ++ l) (sym (map-append (λ (a : Asked). a.name) first.names second.names));
}

-- the same where a call makes the others
pub goes_on : {X : Type 0} (all mid : Reads X) (result : Result X End) (old half new : ShelfSeen)
    → ShelfStands old half → LeadsTo all mid old half → IsReadAs mid result half new → IsReadAs all result old new
unfolding leads_on
goes_on all mid (Ok x) old half new stands first second = leads_on all mid (only (Ok x)) old half new stands first second
goes_on all mid (Err NoMemory) old half new stands first second =
    (second.0, leads_on all mid second.0 old half new stands first second.1)
goes_on all mid (Err (ReadFault which)) old half new stands first second =
    let b = second.0 in (
      record {
        rest = b.rest;
        front = first.names ++ b.front;
        name = b.name;
        leads = leads_on all mid b.rest old half new stands first b.leads;
        last = ap (λ (l : List Asked). first.names ++ l) b.last ∙ sym (append_assoc first.names b.front _);
      },
      risen old.faults half.faults new.faults stands.faults second.1,
    )
goes_on all mid (Err (Missing which)) old half new stands first second =
    (leads_on all mid (only (Err (Missing which))) old half new stands first second.0, risen old.misses half.misses new.misses stands.misses second.1)
goes_on all mid (Err (BadProject error)) old half new stands first second =
    leads_on all mid (only (Err (BadProject error))) old half new stands first second
goes_on all mid (Err (BadData place error)) old half new stands first second =
    leads_on all mid (only (Err (BadData place error))) old half new stands first second
goes_on all mid (Err (BadScript line)) old half new stands first second =
    leads_on all mid (only (Err (BadScript line))) old half new stands first second
goes_on all mid (Err Done) old half new stands first second = absurd second
goes_on all mid (Err Usage) old half new stands first second = absurd second
goes_on all mid (Err (WriteFault which)) old half new stands first second = absurd second

-- what some reads gave decides which others follow
pub then_leads : {X Y : Type 0} (first : Reads X) (next : X → Reads Y) (given : Result X End) (old new : ShelfSeen)
    → LeadsTo first (only given) old new → LeadsTo (first >>= next) (going_on next given) old new
then_leads first next given old new l = record {
  names = l.names;
  gives = λ later are.
      let f = l.gives later are in (
        f.0,
        f.1,
        ap (λ (r : Reading _). behind r.asked (going_on next r.given r.later)) f.2
            ∙ ap (λ (names : List Asked). behind names (going_on next given later)) (append-nil l.names),
      );
  asked = l.asked;
}

-- reads that others follow have begun, and so have all of them
pub then_begins : {X Y : Type 0} (first rest : Reads X) (next : X → Reads Y) (old new : ShelfSeen)
    → LeadsTo first rest old new → LeadsTo (first >>= next) (rest >>= next) old new
then_begins first rest next old new l = record {
  names = l.names;
  gives = λ later are.
      let f = l.gives later are in (
        f.0,
        f.1,
        ap (λ (r : Reading _). behind r.asked (going_on next r.given r.later)) f.2
            ∙ ap (λ (names : List Asked). record {
              asked = names;
              given = (going_on next (rest later).given (rest later).later).given;
              later = (going_on next (rest later).given (rest later).later).later;
            })
            (append_assoc l.names (rest later).asked (going_on next (rest later).given (rest later).later).asked),
      );
  asked = l.asked;
}

-- reads that gave no value end those that would follow
pub then_ends : {X Y : Type 0} (first : Reads X) (next : X → Reads Y) (end : End) (old new : ShelfSeen)
    → IsReadAs first (Err end) old new → IsReadAs (first >>= next) (Err end) old new
unfolding then_begins
then_ends first next NoMemory old new r = (r.0 >>= next, then_begins first r.0 next old new r.1)
then_ends first next (ReadFault which) old new r = (
  record {
    rest = r.0.rest >>= next;
    front = r.0.front;
    name = r.0.name;
    leads = then_begins first r.0.rest next old new r.0.leads;
    last = r.0.last;
  },
  r.1,
)
then_ends first next (Missing which) old new r = (then_leads first next (Err (Missing which)) old new r.0, r.1)
then_ends first next (BadProject error) old new r = then_leads first next (Err (BadProject error)) old new r
then_ends first next (BadData place error) old new r = then_leads first next (Err (BadData place error)) old new r
then_ends first next (BadScript line) old new r = then_leads first next (Err (BadScript line)) old new r
then_ends first next Done old new r = absurd r
then_ends first next Usage old new r = absurd r
then_ends first next (WriteFault which) old new r = absurd r

-- a file that was read, or found too long
pub is_present : (a : Asked) (file : Option (List ℕ)) (bytes : List ℕ) (old new : ShelfSeen) → file ≡ Some bytes
    → LeadsTo (file_of a) (only (present a.which file)) old new → LeadsTo (file_of a) (only (Ok bytes)) old new
is_present a file bytes old new is l =
    subst (λ (f : Option (List ℕ)). LeadsTo (file_of a) (only (present a.which f)) old new) is l

-- what a call did that answers why a file was not read
abbrev pub Unfetched : Asked → ℕ → Unread → (old new : ShelfSeen) → Type 0
Unfetched a max unread.TooLong old new = (bytes : List ℕ) × (max < length bytes) × LeadsTo (file_of a) (only (Ok bytes)) old new
Unfetched a max unread.Absent old new = IsReadAs (file_of a) (Err (Missing a.which)) old new
Unfetched a max unread.Failed old new = IsReadAs (file_of a) (Err (ReadFault a.which)) old new
Unfetched a max unread.NoMemory old new = IsReadAs (file_of a) (Err NoMemory) old new

pub unfetched : (a : Asked) (max : ℕ) (why : Unread) (file : Option (List ℕ)) (old new : ShelfSeen) → ShelfStands old new
    → (IsTrue old.tells → file ≡ old.files a.name) → IsUnread why file max
    → UnreadCause why (Rose old.faults new.faults) (Rose old.misses new.misses)
    → (IsTrue old.tells → UnreadAsks why old.asked new.asked a.name) → Unfetched a max why old new
unfolding one_read
unfetched a max unread.TooLong None old new stands same is cause asked = absurd is
unfetched a max unread.TooLong (Some bytes) old new stands same is cause asked =
    (bytes, is, one_read a (Some bytes) old new stands same asked)
unfetched a max unread.Absent file old new stands same is cause asked = (
  subst (λ (f : Option (List ℕ)). LeadsTo (file_of a) (only (present a.which f)) old new) is
      (one_read a file old new stands same asked),
  cause,
)
unfetched a max unread.Failed file old new stands same is cause asked = (
  record {
    rest = only (present a.which file);
    front = [];
    name = a.name;
    leads = one_read a file old new stands same asked;
    last = refl;
  },
  cause,
)
unfetched a max unread.NoMemory file old new stands same is cause asked =
    (file_of a, none_read (file_of a) old new stands asked)

-- a file that wasn't read ends what would follow
pub file_ends : {Y : Type 0} (a : Asked) (given : List ℕ → Result Y End) (end : End) (old new : ShelfSeen)
    → IsReadAs (file_of a) (Err end) old new → IsReadAs (file_of a >>= (λ bytes. only (given bytes))) (Err end) old new
file_ends a given end old new r = then_ends (file_of a) (λ bytes. only (given bytes)) end old new r

-- what is said of a file's bytes is answered
pub file_goes : {Z Y : Type 0} (a : Asked) (given : List ℕ → Result Y End) (old new : ShelfSeen) (max : ℕ) (got : Option (Vec ℕ Z)) (result : Result Y End)
    → ShelfStands old new
    → (bytes : List ℕ) × StandsFor max got bytes × LeadsTo (file_of a) (only (Ok bytes)) old new
    → ((bytes : List ℕ) → StandsFor max got bytes → IsSaid (given bytes) result)
    → IsReadAs (file_of a >>= (λ bytes. only (given bytes))) result old new
file_goes a given old new max got result stands f said =
    goes_on (file_of a >>= (λ bytes. only (given bytes))) (only (given f.0)) result old new new stands
    (then_leads (file_of a) (λ bytes. only (given bytes)) (Ok f.0) old new f.2) (said f.0 f.1 new)
