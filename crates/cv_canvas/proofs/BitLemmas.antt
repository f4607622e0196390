-- Bits in words: what stands in each place after some bits of a word, or whole words, were set.
use Rattle.std.proofs.Common.{◌≡◌, ℕ, ◌+◌, ◌-◌, ◌*◌, ◌/◌, ◌%◌, ◌^◌, ◌<◌, ◌≤◌, ◌==◌, nat_le, nat_lt, ◌&&◌, Bool, true, false, if◌then◌else◌}
use Rattle.std.proofs.Common.{suc, ◌||◌, replicate, List, map, length, get_or, set, arith, ap, sym, ◌∙◌, refl, ⊎_elim}
use Rattle.std.specs.Int.{bit_at}
use Rattle.std.specs.Int.Bits.{bit_or}
use Rattle.std.specs.List.{between}
use Rattle.std.proofs.lemmas.Bool.{cases_lt, cases_eq}
use Rattle.std.proofs.lemmas.Bool.Decides.{nat_tests}
use Rattle.std.proofs.lemmas.List.{get_or-set_same, get_or-set_other, get_or_past, length-set, with_items_is, get_or-replicate, length-replicate}
use Rattle.std.proofs.lemmas.List.FromFn.{length-map-range_with_len, get_or-map-range_with_len}
use Rattle.std.proofs.Math.Nat.{one-le-pow, pow-le-pow_right}
use Rattle.std.proofs.Math.Pow.{pow-lt}
use Rattle.std.proofs.lemmas.Nat.{one_shl}
use Rattle.std.proofs.lemmas.Nat.Bits.{bit_at_or, bit_at-lt, bit_at-zero, bit_at_ones, bit_at_mask_inside, bit_at_mask_below, bit_at_mask_above}
use Rattle.std.specs.Vec.{with_items}
use Rattle.std.proofs.Common.{Vec}
use borrow.Rule.Slice.PartMut.{put_mid}
use Rattle.cv_canvas.specs.Bits.{is_bit, bits_in}
use Rattle.cv_canvas.proofs.PlaceLemmas.{part_place}

-- there are as many bits as are read
pub bits_long : (n : ℕ) (words : List ℕ) → length (bits_in n words) ≡ n
bits_long n words = length-map-range_with_len (is_bit words) 0 n

-- so there are of a list that has them
pub read_long : (n : ℕ) (words : List ℕ) (bits : List Bool) → bits_in n words ≡ bits → length bits ≡ n
read_long n words bits read = ap length (sym read) ∙ bits_long n words

-- each of them is that of the words, and behind them none is set
pub bits_within : (n : ℕ) (words : List ℕ) (k : ℕ) → k < n → get_or (bits_in n words) k false ≡ is_bit words k
bits_within n words k below = get_or-map-range_with_len (is_bit words) 0 n k k false below (omega arith)

pub bits_beyond : (n : ℕ) (words : List ℕ) (k : ℕ) → n ≤ k → get_or (bits_in n words) k false ≡ false
bits_beyond n words k beyond = get_or_past (bits_in n words) k false (omega (arith, bits_long n words))

-- a bit of a word in which those from one up to another were set
set_inside : (word ones i : ℕ) → bit_at ones i ≡ 1 → (bit_at (bit_or word ones) i == 1) ≡ true
set_inside word ones i one =
    let low = bit_at-lt word i in
    let e = bit_at_or word ones i in grind (arith, nat_tests)

set_outside : (word ones i : ℕ) → bit_at ones i ≡ 0 → bit_at (bit_or word ones) i ≡ bit_at word i
set_outside word ones i none =
    let e = bit_at_or word ones i in grind arith

word_set : (word lo hi i : ℕ) → (bit_at (bit_or word (2 ^ hi - 2 ^ lo)) i == 1)
    ≡ (if nat_le lo i && nat_lt i hi then true else (bit_at word i == 1))
word_set word lo hi i =
    ⊎_elim (λ before.
    let t : (nat_le lo i && nat_lt i hi) ≡ false = grind (arith, nat_tests) in
    rw t (ap (λ b. b == 1) (set_outside word (2 ^ hi - 2 ^ lo) i (bit_at_mask_below lo hi i before))))
    (λ from. ⊎_elim (λ end.
    let t : (nat_le lo i && nat_lt i hi) ≡ true = grind (arith, nat_tests) in
    rw t (set_inside word (2 ^ hi - 2 ^ lo) i (bit_at_mask_inside lo hi i from end)))
    (λ behind.
    let t : (nat_le lo i && nat_lt i hi) ≡ false = grind (arith, nat_tests) in
    rw t (ap (λ b. b == 1) (set_outside word (2 ^ hi - 2 ^ lo) i (bit_at_mask_above lo hi i behind))))
    (cases_lt i hi))
    (cases_lt i lo)

-- the tests of a place within a word, and of the place of all
in_word : (a lo hi k : ℕ) → k / 64 ≡ a
    → (nat_le lo (k % 64) && nat_lt (k % 64) hi) ≡ (nat_le (64 * a + lo) k && nat_lt k (64 * a + hi))
in_word a lo hi k here = grind (arith, nat_tests)

off_word : (a lo hi k : ℕ) → (k / 64 ≡ a → ⊥) → hi ≤ 64 → (nat_le (64 * a + lo) k && nat_lt k (64 * a + hi)) ≡ false
off_word a lo hi k differ most = grind (arith, nat_tests)

-- the bits of one word were set, from one up to another
pub part_set : (words : List ℕ) (a lo hi k : ℕ) → a < length words → hi ≤ 64
    → is_bit (set words a (bit_or (get_or words a 0) (2 ^ hi - 2 ^ lo))) k
    ≡ (if nat_le (64 * a + lo) k && nat_lt k (64 * a + hi) then true else is_bit words k)
part_set words a lo hi k within most =
    ⊎_elim (λ here. same here) (λ differ. other differ) (cases_eq (k / 64) a)
  where
    ones : ℕ
    ones = 2 ^ hi - 2 ^ lo

    changed : List ℕ
    changed = set words a (bit_or (get_or words a 0) ones)

    same : k / 64 ≡ a → is_bit changed k ≡ (if nat_le (64 * a + lo) k && nat_lt k (64 * a + hi) then true else is_bit words k)
    same here =
        ap (λ q. bit_at (get_or changed q 0) (k % 64) == 1) here
        ∙ ap (λ w. bit_at w (k % 64) == 1) (get_or-set_same words a (bit_or (get_or words a 0) ones) 0 within)
        ∙ word_set (get_or words a 0) lo hi (k % 64)
        ∙ ap (λ (on : Bool). if on then true else (bit_at (get_or words a 0) (k % 64) == 1)) (in_word a lo hi k here)
        ∙ ap (λ q. if nat_le (64 * a + lo) k && nat_lt k (64 * a + hi) then true else (bit_at (get_or words q 0) (k % 64) == 1)) (sym here)

    other : (k / 64 ≡ a → ⊥) → is_bit changed k ≡ (if nat_le (64 * a + lo) k && nat_lt k (64 * a + hi) then true else is_bit words k)
    other differ =
        let t = off_word a lo hi k differ most in
        rw t (ap (λ w. bit_at w (k % 64) == 1) (get_or-set_other words a (k / 64) (bit_or (get_or words a 0) ones) 0 differ))

-- the tests of a word, and of the places of its bits
in_words : (a b k : ℕ) → (nat_le a (k / 64) && nat_lt (k / 64) b) ≡ (nat_le (64 * a) k && nat_lt k (64 * b))
in_words a b k = grind (arith, nat_tests)

full_bit : (k : ℕ) → (bit_at (2 ^ 64 - 1) (k % 64) == 1) ≡ true
full_bit k =
    let e = bit_at_ones 64 (k % 64) (omega arith) in ap (λ b. b == 1) e

-- all bits of some words were set
pub words_set : (words : List ℕ) (a b k : ℕ) → a ≤ b → b ≤ length words
    → is_bit (put_mid a (b - a) words (map (λ _. 2 ^ 64 - 1) (between a b words))) k
    ≡ (if nat_le (64 * a) k && nat_lt k (64 * b) then true else is_bit words k)
words_set words a b k order within =
    ap (λ w. bit_at w (k % 64) == 1) (part_place (λ _. 2 ^ 64 - 1) a b words (k / 64) 0 order within)
    ∙ pick (nat_le a (k / 64) && nat_lt (k / 64) b)
    ∙ ap (λ (on : Bool). if on then true else is_bit words k) (in_words a b k)
  where
    pick : (on : Bool) → (bit_at (if on then 2 ^ 64 - 1 else get_or words (k / 64) 0) (k % 64) == 1)
        ≡ (if on then true else is_bit words k)
    pick true = full_bit k
    pick false = refl

-- a power of two without a lower one, as words have it
pub taken : (lo hi : ℕ) → lo ≤ hi → hi < 64
    → (1 * 2 ^ hi % 18446744073709551616 + (18446744073709551616 - 1 * 2 ^ lo % 18446744073709551616)) % 18446744073709551616
    ≡ 2 ^ hi - 2 ^ lo
taken lo hi order below =
    let high = one_shl hi 64 below in
    let low = one_shl lo 64 (omega arith) in
    let less : 2 ^ lo ≤ 2 ^ hi = pow-le-pow_right {n = 2} (omega arith) order in
    let top : 2 ^ hi < 2 ^ 64 = pow-lt below in rw (high, low) (omega arith)

-- the first power of two that no word has, without a lower one
pub taken_from_all : (lo : ℕ) → lo < 64
    → (0 + (18446744073709551616 - 1 * 2 ^ lo % 18446744073709551616)) % 18446744073709551616 ≡ 2 ^ 64 - 2 ^ lo
taken_from_all lo below =
    let low = one_shl lo 64 below in
    let some : 1 ≤ 2 ^ lo = one-le-pow lo 2 (omega arith) in rw low (omega arith)

-- three ranges, one after the other
three : (s t u on x : Bool) → on ≡ (s || (t || u))
    → (if u then true else (if t then true else (if s then true else x))) ≡ (if on then true else x)
three true t true on x is = rw is refl
three true true false on x is = rw is refl
three true false false on x is = rw is refl
three false true true on x is = rw is refl
three false true false on x is = rw is refl
three false false true on x is = rw is refl
three false false false on x is = rw is refl

-- the tests of a range whose ends lie in words a and b, and of its parts
tests_one : (a b lo hi k : ℕ) → a ≡ b → lo < 64 → hi < 64 → 64 * a + lo ≤ 64 * b + hi
    → (nat_le (64 * a + lo) k && nat_lt k (64 * b + hi))
    ≡ ((nat_le (64 * a + lo) k && nat_lt k (64 * a + hi))
    || (false || (nat_le (64 * b + hi) k && nat_lt k (64 * b + hi))))
tests_one a b lo hi k same low high order = grind (arith, nat_tests)

tests_two : (a b lo hi k : ℕ) → suc a ≡ b → lo < 64 → hi < 64
    → (nat_le (64 * a + lo) k && nat_lt k (64 * b + hi))
    ≡ ((nat_le (64 * a + lo) k && nat_lt k (64 * a + 64))
    || (false || (nat_le (64 * b + 0) k && nat_lt k (64 * b + hi))))
tests_two a b lo hi k next low high = grind (arith, nat_tests)

tests_more : (a b lo hi k : ℕ) → suc a < b → lo < 64 → hi < 64
    → (nat_le (64 * a + lo) k && nat_lt k (64 * b + hi))
    ≡ ((nat_le (64 * a + lo) k && nat_lt k (64 * a + 64))
    || ((nat_le (64 * (a + 1)) k && nat_lt k (64 * b)) || (nat_le (64 * b + 0) k && nat_lt k (64 * b + hi))))
tests_more a b lo hi k less low high = grind (arith, nat_tests)

-- a place by its word and its bit
place_is : (k : ℕ) → 64 * (k / 64) + k % 64 ≡ k
place_is k = omega arith

-- the test of the places of a range
abbrev pub in_range : ℕ → ℕ → ℕ → Bool
in_range from end k = nat_le from k && nat_lt k end

-- bits set in three parts
joined : (words first second third : List ℕ) (s t u on : Bool) (k : ℕ)
    → is_bit first k ≡ (if s then true else is_bit words k)
    → is_bit second k ≡ (if t then true else is_bit first k)
    → is_bit third k ≡ (if u then true else is_bit second k) → on ≡ (s || (t || u))
    → is_bit third k ≡ (if on then true else is_bit words k)
joined words first second third s t u on k one two more all =
    more ∙ ap (λ (x : Bool). if u then true else x) two
    ∙ ap (λ (x : Bool). if u then true else (if t then true else x)) one
    ∙ three s t u on (is_bit words k) all

-- some bits of a word were set
ones_set : (words now : List ℕ) (a lo hi ones k : ℕ) → a < length words → hi ≤ 64
    → now ≡ set words a (bit_or (get_or words a 0) ones) → ones ≡ 2 ^ hi - 2 ^ lo
    → is_bit now k ≡ (if in_range (64 * a + lo) (64 * a + hi) k then true else is_bit words k)
ones_set words now a lo hi ones k within most put are = rw (put, are) (part_set words a lo hi k within most)

-- a range was set in its first word and in its last one, with no word between
pub range_set : (words first third : List ℕ) (from end in_first in_last k : ℕ) → from ≤ end → end < 64 * length words
    → end / 64 ≤ from / 64 + 1
    → first ≡ set words (from / 64) (bit_or (get_or words (from / 64) 0) in_first)
    → in_first ≡ 2 ^ (if from / 64 == end / 64 then end % 64 else 64) - 2 ^ (from % 64)
    → third ≡ set first (end / 64) (bit_or (get_or first (end / 64) 0) in_last)
    → in_last ≡ 2 ^ (end % 64) - 2 ^ (if from / 64 == end / 64 then end % 64 else 0)
    → is_bit third k ≡ (if in_range from end k then true else is_bit words k)
range_set words first third from end in_first in_last k order within few put_a ones_a put_b ones_b =
    ⊎_elim (λ one. same one) (λ two. next two) (cases_eq (from / 64) (end / 64))
  where
    long : length first ≡ length words
    long = ap length put_a ∙ length-set words (from / 64) (bit_or (get_or words (from / 64) 0) in_first)

    done : (lo hi : ℕ) → hi ≤ 64 → in_first ≡ 2 ^ hi - 2 ^ (from % 64) → in_last ≡ 2 ^ (end % 64) - 2 ^ lo
        → in_range (64 * (from / 64) + from % 64) (64 * (end / 64) + end % 64) k
        ≡ (in_range (64 * (from / 64) + from % 64) (64 * (from / 64) + hi) k
        || (false || in_range (64 * (end / 64) + lo) (64 * (end / 64) + end % 64) k))
        → is_bit third k ≡ (if in_range from end k then true else is_bit words k)
    done lo hi most ones last tests =
        joined words first first third
        (in_range (64 * (from / 64) + from % 64) (64 * (from / 64) + hi) k) false
        (in_range (64 * (end / 64) + lo) (64 * (end / 64) + end % 64) k)
        (in_range (64 * (from / 64) + from % 64) (64 * (end / 64) + end % 64) k) k
        (ones_set words first (from / 64) (from % 64) hi in_first k (omega arith) most put_a ones)
        refl
        (ones_set first third (end / 64) lo (end % 64) in_last k (omega (arith, long)) (omega arith) put_b last)
        tests
        ∙ ap (λ (n : ℕ). if in_range n (64 * (end / 64) + end % 64) k then true else is_bit words k) (place_is from)
        ∙ ap (λ (n : ℕ). if in_range from n k then true else is_bit words k) (place_is end)

    same : from / 64 ≡ end / 64 → is_bit third k ≡ (if in_range from end k then true else is_bit words k)
    same one =
        let t : (from / 64 == end / 64) ≡ true = grind (arith, nat_tests) in
        done (end % 64) (end % 64) (omega arith)
        (ones_a ∙ ap (λ (b : Bool). 2 ^ (if b then end % 64 else 64) - 2 ^ (from % 64)) t)
        (ones_b ∙ ap (λ (b : Bool). 2 ^ (end % 64) - 2 ^ (if b then end % 64 else 0)) t)
        (tests_one (from / 64) (end / 64) (from % 64) (end % 64) k one (omega arith) (omega arith) (omega arith))

    next : (from / 64 ≡ end / 64 → ⊥) → is_bit third k ≡ (if in_range from end k then true else is_bit words k)
    next two =
        let t : (from / 64 == end / 64) ≡ false = grind (arith, nat_tests) in
        let follows : suc (from / 64) ≡ end / 64 = omega arith in
        done 0 64 (omega arith)
        (ones_a ∙ ap (λ (b : Bool). 2 ^ (if b then end % 64 else 64) - 2 ^ (from % 64)) t)
        (ones_b ∙ ap (λ (b : Bool). 2 ^ (end % 64) - 2 ^ (if b then end % 64 else 0)) t)
        (tests_two (from / 64) (end / 64) (from % 64) (end % 64) k follows (omega arith) (omega arith))

-- a range was set in its first word, in all words between, and in its last one
pub long_range_set : (words first second third ones : List ℕ) (from end in_first in_last k : ℕ) → from ≤ end
    → end < 64 * length words → from / 64 + 1 < end / 64
    → first ≡ set words (from / 64) (bit_or (get_or words (from / 64) 0) in_first)
    → in_first ≡ 2 ^ (if from / 64 == end / 64 then end % 64 else 64) - 2 ^ (from % 64)
    → second ≡ put_mid (from / 64 + 1) (end / 64 - (from / 64 + 1)) first ones
    → ones ≡ map (λ _. 2 ^ 64 - 1) (between (from / 64 + 1) (end / 64) first)
    → length second ≡ length first
    → third ≡ set second (end / 64) (bit_or (get_or second (end / 64) 0) in_last)
    → in_last ≡ 2 ^ (end % 64) - 2 ^ (if from / 64 == end / 64 then end % 64 else 0)
    → is_bit third k ≡ (if in_range from end k then true else is_bit words k)
long_range_set words first second third ones from end in_first in_last k order within many put_a ones_a filled are long put_b ones_b =
    let long_a : length first ≡ length words =
    ap length put_a ∙ length-set words (from / 64) (bit_or (get_or words (from / 64) 0) in_first) in
    let t : (from / 64 == end / 64) ≡ false = grind (arith, nat_tests) in
    let full : second ≡ put_mid (from / 64 + 1) (end / 64 - (from / 64 + 1)) first
    (map (λ _. 2 ^ 64 - 1) (between (from / 64 + 1) (end / 64) first)) =
    filled ∙ ap (λ (ws : List ℕ). put_mid (from / 64 + 1) (end / 64 - (from / 64 + 1)) first ws) are in
    joined words first second third
    (in_range (64 * (from / 64) + from % 64) (64 * (from / 64) + 64) k)
    (in_range (64 * (from / 64 + 1)) (64 * (end / 64)) k)
    (in_range (64 * (end / 64) + 0) (64 * (end / 64) + end % 64) k)
    (in_range (64 * (from / 64) + from % 64) (64 * (end / 64) + end % 64) k) k
    (ones_set words first (from / 64) (from % 64) 64 in_first k (omega arith) (omega arith) put_a
    (ones_a ∙ ap (λ (b : Bool). 2 ^ (if b then end % 64 else 64) - 2 ^ (from % 64)) t))
    (rw full (words_set first (from / 64 + 1) (end / 64) k (omega arith) (omega arith)))
    (ones_set second third (end / 64) 0 (end % 64) in_last k (omega (arith, long, long_a)) (omega arith) put_b
    (ones_b ∙ ap (λ (b : Bool). 2 ^ (end % 64) - 2 ^ (if b then end % 64 else 0)) t))
    (tests_more (from / 64) (end / 64) (from % 64) (end % 64) k (omega arith) (omega arith) (omega arith))
    ∙ ap (λ (n : ℕ). if in_range n (64 * (end / 64) + end % 64) k then true else is_bit words k) (place_is from)
    ∙ ap (λ (n : ℕ). if in_range from n k then true else is_bit words k) (place_is end)

-- so was a range of the bits that are read of words, which are kept in a vector
pub read_set : {Z : Type 0} (count : ℕ) (v : Vec ℕ Z) (words now : List ℕ) (old : List Bool) (from end k : ℕ)
    → bits_in count v.items ≡ old → end ≤ length old → words ≡ v.items → length words ≡ v.len
    → length now ≡ length words
    → is_bit now k ≡ (if in_range from end k then true else is_bit words k)
    → get_or (bits_in count (with_items v now).items) k false ≡ (if in_range from end k then true else get_or old k false)
read_set count v words now old from end k view within held len long told =
    ap (λ (ws : List ℕ). get_or (bits_in count ws) k false) (with_items_is v now (long ∙ len))
    ∙ ⊎_elim (λ below.
    bits_within count now k below ∙ told
    ∙ ap (λ (b : Bool). if in_range from end k then true else b)
    (ap (λ (ws : List ℕ). is_bit ws k) held ∙ sym (bits_within count v.items k below)
    ∙ ap (λ (bs : List Bool). get_or bs k false) view))
    (λ beyond.
    let all : length old ≡ count = read_long count v.items old view in
    let t : in_range from end k ≡ false = grind (arith, nat_tests) in
    bits_beyond count now k beyond
    ∙ rw t (sym (bits_beyond count v.items k beyond) ∙ ap (λ (bs : List Bool). get_or bs k false) view))
    (cases_lt k count)

-- words of nothing have no bit set
zero_at : (n q : ℕ) → ◌≡◌ {A = ℕ} (get_or (replicate n 0) q 0) 0
zero_at n q =
    let none : ℕ = 0 in
    ⊎_elim (λ below. get_or-replicate n q none none below)
    (λ beyond. get_or_past (replicate n none) q none (omega (arith, length-replicate n none))) (cases_lt q n)

none_set : (n k : ℕ) → is_bit (replicate n 0) k ≡ false
none_set n k =
    ap (λ w. bit_at w (k % 64) == 1) (zero_at n (k / 64)) ∙ ap (λ b. b == 1) (bit_at-zero (k % 64))

pub bits_clear : (count n : ℕ) (words : List ℕ) (k : ℕ) → words ≡ replicate n 0 → get_or (bits_in count words) k false ≡ false
bits_clear count n words k are =
    ⊎_elim (λ below. bits_within count words k below ∙ ap (λ (ws : List ℕ). is_bit ws k) are ∙ none_set n k)
    (λ beyond. bits_beyond count words k beyond) (cases_lt k count)
