-- What a count is, as std's `parse` reads it.
use Rattle.std.proofs.Common.{codes, ◌≡◌, ℕ, ◌^◌, ◌<◌, ◌≤◌, ◌≢◌, List, [], ◌∷◌, length, get_or, drop, ◌+◌, Result, Ok, Err, Some, None, Option, IfSome, Bool, true, false, ◌&&◌, if◌then◌else◌, nat_le, ◌*◌, ℤ, refl, ap, sym, ◌∙◌, subst, arith, lit<}
use Rattle.std.proofs.Math.Nat.{pow-le-pow_right}
use Rattle.std.proofs.lemmas.Int.Digits.{digits_value-lt}
use Rattle.std.proofs.lemmas.Str.Parse.{without_leading_plus_none}
use Rattle.std.proofs.lemmas.Result.{Ok-from_Ok_iff}
use Rattle.std.specs.Str.Parse.{IsNumeral, ParsesUnsigned, digits_value, without_leading_plus}
use Rattle.std.specs.Char.{digit_value}
use Rattle.std.proofs.lemmas.Bool.{and_parts, leb-true}
use Rattle.cv_model.specs.Positions.{Rectangle}
use Rattle.cv_model.specs.Views.{PixelGrid, grid_of}
use Rattle.cv_geom.specs.declared.views.ViewError.TheVariants.{Size, Empty, Range}
use Rattle.cv_geom.specs.Views.{view_of, is_size, is_spread, is_in_range}
use Rattle.std.proofs.lemmas.List.{drop_more, drop_all}
use Rattle.std.specs.Result.{result_ok}
use Rattle.std.proofs.lemmas.Option.{same_Some}
use Rattle.cv_geom.specs.declared.views.ViewError.{ViewError}
use Rattle.cv_model.specs.declared.colour.Rgb.{Rgb}
use Rattle.std.proofs.Common.{◌++◌, ◌-◌, suc, take, inl, inr}
use Rattle.std.proofs.Math.Seq.{take-length}
use Rattle.std.specs.List.{list_all}
use Rattle.cv_words.specs.Plain.{is_plain}
use Rattle.cv_top.specs.Parts.{QuickParts, SessionParts}
use Rattle.cv_top.specs.Words.{IsCount, IsViewOf, IsPlan, IsQuick, IsOption, Place, First, Middle, Last, placed, IsNamed, IsAlone}

-- ten digits fit 64 bits
fits : (word : List ℕ) (n : ℕ) → IsCount word n → digits_value 10 word < 2 ^ 64
fits word n h =
    let below : digits_value 10 word < 10 ^ length word = digits_value-lt 10 word h.numeral.1 in
    let most : 10 ^ length word ≤ 10 ^ 10 = pow-le-pow_right (lit< tt) h.few in omega (arith, below, most)

-- a count doesn't begin with a plus
no_plus : (word : List ℕ) → IsNumeral 10 word → get_or word 0 0 ≢ 43
no_plus [] h = λ e. absurd (omega (arith, h.0))
no_plus (c ∷ cs) h = λ e. let small : digit_value 43 < 10 = subst (λ (x : ℕ). digit_value x < 10) e h.1.0 in absurd (omega (arith, small))

-- a count is parsed as its value
pub parsed : {E : Type 0} (word : List ℕ) (n : ℕ) (r : Result ℕ E) → ParsesUnsigned 64 10 word r → IsCount word n → r ≡ Ok n
parsed word n r p h =
    let same : without_leading_plus word ≡ word = without_leading_plus_none word (no_plus word h.numeral) in
    Ok-from_Ok_iff r _ _ p (rw same (h.numeral, fits word n h)) ∙ ap Ok (ap (digits_value 10) same ∙ h.value)

-- a view that was given has the size that was asked for, and none above 4,096 pixels
pub record HasSize (w h : ℕ) (v : PixelGrid) : Type 0 where
  pub width : v.w ≡ w
  pub height : v.h ≡ h
  pub narrow : w ≤ 4096
  pub low : h ≤ 4096

-- the tests that were passed before an answer Ok
given : (size spread range : Bool) (g v : PixelGrid) → (if size then (if spread then (if range then Ok g else Err Range) else Err Empty) else Err Size) ≡ Ok v → (size ≡ true) × (v ≡ g)
given true true true g v e = (refl, cc)
given true true false g v e = absurd (cc)
given true false range g v e = absurd (cc)
given false spread range g v e = absurd (cc)

-- the view that is given at a size has that size
pub has_size : (e : Rectangle) (w h : ℕ) (v : PixelGrid) → view_of e w h ≡ Ok v → HasSize w h v
has_size e w h v is =
    let parts = given (is_size w h) (is_spread e) (is_in_range (grid_of e w h)) (grid_of e w h) v is in
    let size = and_parts (nat_le 1 w && nat_le w 4096 && nat_le 1 h && nat_le h 4096) (nat_le (w * h) 2097152) parts.0 in
    let tall = and_parts (nat_le 1 w && nat_le w 4096 && nat_le 1 h) (nat_le h 4096) size.0 in
    let some = and_parts (nat_le 1 w && nat_le w 4096) (nat_le 1 h) tall.0 in
    let wide = and_parts (nat_le 1 w) (nat_le w 4096) some.0 in record {
      width = ap (λ (g : PixelGrid). g.w) parts.1;
      height = ap (λ (g : PixelGrid). g.h) parts.1;
      narrow = leb-true w 4096 wide.1;
      low = leb-true h 4096 tall.1;
    }

-- a size and the view that was given at it
pub viewed : (e : Rectangle) (w h : ℕ) (wide high : List ℕ) (o : Option PixelGrid) (r : Result PixelGrid ViewError) → o ≡ result_ok r → r ≡ view_of e w h → IsCount wide w → IsCount high h → IfSome o (λ v. IsViewOf wide high e v)
viewed e w h wide high None r is was width height = tt
viewed e w h wide high (Some v) (Err x) is was width height = absurd (cc)
viewed e w h wide high (Some v) (Ok u) is was width height =
    let same : v ≡ u = cc in
    let size = has_size e w h v (sym was ∙ ap Ok (sym same)) in record {
      width = subst (IsCount wide) (sym size.width) width;
      height = subst (IsCount high) (sym size.height) height;
      gives = ap (λ n. view_of e n v.h) size.width ∙ ap (λ n. view_of e w n) size.height ∙ sym was ∙ ap Ok (sym same);
    }

-- no other view is given at these words
pub only_viewed : (e : Rectangle) (w h : ℕ) (v : PixelGrid) (o : Option PixelGrid) (r : Result PixelGrid ViewError) → o ≡ result_ok r → r ≡ view_of e w h → Some w ≡ Some v.w → Some h ≡ Some v.h → view_of e v.w v.h ≡ Ok v → o ≡ Some v
only_viewed e w h v o r is was width height gives =
    is ∙ ap result_ok (was ∙ ap (λ n. view_of e n h) (same_Some w v.w width) ∙ ap (λ n. view_of e v.w n) (same_Some h v.h height) ∙ gives)

-- the extent of four numbers
abbrev rectangle : ℤ → ℤ → ℤ → ℤ → Rectangle
rectangle a b c d = record { xmin = a; ymin = b; xmax = c; ymax = d }

-- an extent is made of its four numbers
pub same_rectangle : (r e : Rectangle) (a b c d : ℤ) → r ≡ rectangle a b c d → Some a ≡ Some e.xmin → Some b ≡ Some e.ymin → Some c ≡ Some e.xmax → Some d ≡ Some e.ymax → Some r ≡ Some e
same_rectangle r e a b c d is west south east north =
    ap Some (is ∙ ap (λ z. rectangle z b c d) (same_Some a e.xmin west) ∙ ap (λ z. rectangle e.xmin z c d) (same_Some b e.ymin south)
    ∙ ap (λ z. rectangle e.xmin e.ymin z d) (same_Some c e.xmax east) ∙ ap (λ z. rectangle e.xmin e.ymin e.xmax z) (same_Some d e.ymax north))

-- the item at a place, and those behind it
item : (ws : List (List ℕ)) (i : ℕ) (a : List ℕ) → i < length ws → a ≡ get_or ws i a → drop i ws ≡ a ∷ drop (i + 1) ws
item ws i a h is = drop_more ws i a h ∙ ap (λ x. x ∷ drop (i + 1) ws) (sym is)

-- ten words are read one after the other
pub ten_items : (ws : List (List ℕ)) (a b c d e f g h i j : List ℕ) → length ws ≡ 10 → a ≡ get_or ws 0 a → b ≡ get_or ws 1 b → c ≡ get_or ws 2 c → d ≡ get_or ws 3 d → e ≡ get_or ws 4 e → f ≡ get_or ws 5 f → g ≡ get_or ws 6 g → h ≡ get_or ws 7 h → i ≡ get_or ws 8 i → j ≡ get_or ws 9 j → ws ≡ a ∷ b ∷ c ∷ d ∷ e ∷ f ∷ g ∷ h ∷ i ∷ j ∷ []
ten_items ws a b c d e f g h i j n pa pb pc pd pe pf pg ph pi pj =
    item ws 0 a (omega arith) pa ∙ ap (λ t. a ∷ t) (item ws 1 b (omega arith) pb ∙ ap (λ t. b ∷ t) (item ws 2 c (omega arith) pc
    ∙ ap (λ t. c ∷ t) (item ws 3 d (omega arith) pd ∙ ap (λ t. d ∷ t) (item ws 4 e (omega arith) pe ∙ ap (λ t. e ∷ t) (item ws 5 f (omega arith) pf
    ∙ ap (λ t. f ∷ t) (item ws 6 g (omega arith) pg ∙ ap (λ t. g ∷ t) (item ws 7 h (omega arith) ph ∙ ap (λ t. h ∷ t) (item ws 8 i (omega arith) pi
    ∙ ap (λ t. i ∷ t) (item ws 9 j (omega arith) pj ∙ ap (λ t. j ∷ t) (drop_all 10 ws (omega arith)))))))))))

-- a word that was lent from its place
pub held : (ws : List (List ℕ)) (i : ℕ) (x a : List ℕ) → x ≡ a → a ≡ get_or ws i a → x ≡ get_or ws i x
held ws i x a e is = subst (λ (y : List ℕ). y ≡ get_or ws i y) (sym e) is

-- the order whose words these are
abbrev pub ordered : List ℕ → List ℕ → PixelGrid → Rgb → QuickParts
ordered csv out view fill = record { csv = csv; out = out; view = view; fill = fill }

-- an order is made of its four parts
pub same_order : (csv out : List ℕ) (view : PixelGrid) (fill : Rgb) (order : QuickParts) → csv ≡ order.csv → out ≡ order.out → view ≡ order.view → fill ≡ order.fill → Some (ordered csv out view fill) ≡ Some order
same_order csv out view fill order c o v f =
    ap Some (ap (λ x. ordered x out view fill) c ∙ ap (λ x. ordered order.csv x view fill) o
    ∙ ap (λ x. ordered order.csv order.out x fill) v ∙ ap (λ x. ordered order.csv order.out order.view x) f)

-- the ten words of a command
abbrev pub ten : (a b c d e f g h i j : List ℕ) → List (List ℕ)
ten a b c d e f g h i j = a ∷ b ∷ c ∷ d ∷ e ∷ f ∷ g ∷ h ∷ i ∷ j ∷ []

-- what an order's words say of the ten words read
pub record IsOrdered (a b c d e f g h i j : List ℕ) (order : QuickParts) : Type 0 where
  pub command : a ≡ codes "quick"
  pub csv : b ≡ order.csv
  pub out : c ≡ order.out
  pub plan : IsPlan d e f g h i j order.view order.fill

-- ten words that are an order's are its parts
pub is_ordered : (words : List (List ℕ)) (a b c d e f g h i j : List ℕ) (order : QuickParts) → words ≡ ten a b c d e f g h i j → IsQuick words order → IsOrdered a b c d e f g h i j order
is_ordered words a b c d e f g h i j order read q =
    let same : ten a b c d e f g h i j ≡ ten (codes "quick") order.csv order.out q.w q.h q.xmin q.ymin q.xmax q.ymax q.colour = sym read ∙ q.spelled in
    let at : ℕ → List (List ℕ) → List ℕ = λ n l. get_or l n [] in record {
      command = ap (at 0) same;
      csv = ap (at 1) same;
      out = ap (at 2) same;
      plan = subst (λ (l : List (List ℕ)). IsPlan (at 3 l) (at 4 l) (at 5 l) (at 6 l) (at 7 l) (at 8 l) (at 9 l) order.view order.fill) (sym same) q.plan;
    }

-- three words and four are read one after the other
pub three_items : (ws : List (List ℕ)) (a b c : List ℕ) → length ws ≡ 3 → a ≡ get_or ws 0 a → b ≡ get_or ws 1 b → c ≡ get_or ws 2 c → ws ≡ a ∷ b ∷ c ∷ []
three_items ws a b c n pa pb pc =
    item ws 0 a (omega arith) pa ∙ ap (λ t. a ∷ t) (item ws 1 b (omega arith) pb ∙ ap (λ t. b ∷ t) (item ws 2 c (omega arith) pc
    ∙ ap (λ t. c ∷ t) (drop_all 3 ws (omega arith))))

pub four_items : (ws : List (List ℕ)) (a b c d : List ℕ) → length ws ≡ 4 → a ≡ get_or ws 0 a → b ≡ get_or ws 1 b → c ≡ get_or ws 2 c → d ≡ get_or ws 3 d → ws ≡ a ∷ b ∷ c ∷ d ∷ []
four_items ws a b c d n pa pb pc pd =
    item ws 0 a (omega arith) pa ∙ ap (λ t. a ∷ t) (item ws 1 b (omega arith) pb ∙ ap (λ t. b ∷ t) (item ws 2 c (omega arith) pc
    ∙ ap (λ t. c ∷ t) (item ws 3 d (omega arith) pd ∙ ap (λ t. d ∷ t) (drop_all 4 ws (omega arith)))))

-- what stands behind the first word
pub behind_first : (words : List (List ℕ)) (w : List ℕ) (rest : List (List ℕ)) → words ≡ w ∷ rest → rest ≡ take (length words - 1) (drop 1 words)
behind_first words w rest e =
    let n : length (w ∷ rest) ≡ suc (length rest) = refl in
    let m : length rest ≡ length words - 1 = let l = ap length e in omega (arith, l, n) in
    sym (take-length rest) ∙ ap (λ (k : ℕ). take k rest) m ∙ ap (λ (ws : List (List ℕ)). take (length words - 1) (drop 1 ws)) (sym e)

-- ---- a session

-- words where the option stands at a place
module _ (place : Place) (option : List (List ℕ)) (rest : List (List ℕ)) (p s n : List ℕ) where
  alone : rest ≡ placed place option (record { project = p; script = s; number = n }) → IsOption option n → (r : Option SessionParts) → IfSome r (IsNamed p s n) → IfSome r (IsAlone rest)
  alone spelled is None h = tt
  alone spelled is (Some order) h = record {
    place = place;
    option = option;
    spelled = spelled ∙ ap (placed place option) (sym h.is);
    is_option = subst (λ (o : SessionParts). IsOption option o.number) (sym h.is) is;
    plain = subst (λ (o : SessionParts). list_all is_plain (o.project ∷ o.script ∷ []) ≡ true) (sym h.is) h.plain;
    none = subst (λ (o : SessionParts). IsCount o.number 0) (sym h.is) h.none;
  }

pub one_first : (a b c n : List ℕ) (r : Option SessionParts) → a ≡ codes "--workers=" ++ n → IfSome r (IsNamed b c n) → IfSome r (IsAlone (a ∷ b ∷ c ∷ []))
one_first a b c n r e h = alone First (a ∷ []) (a ∷ b ∷ c ∷ []) b c n refl (inr (ap (λ (w : List ℕ). w ∷ []) e)) r h

pub one_middle : (a b c n : List ℕ) (r : Option SessionParts) → b ≡ codes "--workers=" ++ n → IfSome r (IsNamed a c n) → IfSome r (IsAlone (a ∷ b ∷ c ∷ []))
one_middle a b c n r e h = alone Middle (b ∷ []) (a ∷ b ∷ c ∷ []) a c n refl (inr (ap (λ (w : List ℕ). w ∷ []) e)) r h

pub one_last : (a b c n : List ℕ) (r : Option SessionParts) → c ≡ codes "--workers=" ++ n → IfSome r (IsNamed a b n) → IfSome r (IsAlone (a ∷ b ∷ c ∷ []))
one_last a b c n r e h = alone Last (c ∷ []) (a ∷ b ∷ c ∷ []) a b n refl (inr (ap (λ (w : List ℕ). w ∷ []) e)) r h

pub two_first : (a b c d : List ℕ) (r : Option SessionParts) → a ≡ codes "--workers" → IfSome r (IsNamed c d b) → IfSome r (IsAlone (a ∷ b ∷ c ∷ d ∷ []))
two_first a b c d r e h = alone First (a ∷ b ∷ []) (a ∷ b ∷ c ∷ d ∷ []) c d b refl (inl (ap (λ (w : List ℕ). w ∷ b ∷ []) e)) r h

pub two_middle : (a b c d : List ℕ) (r : Option SessionParts) → b ≡ codes "--workers" → IfSome r (IsNamed a d c) → IfSome r (IsAlone (a ∷ b ∷ c ∷ d ∷ []))
two_middle a b c d r e h = alone Middle (b ∷ c ∷ []) (a ∷ b ∷ c ∷ d ∷ []) a d c refl (inl (ap (λ (w : List ℕ). w ∷ c ∷ []) e)) r h

pub two_last : (a b c d : List ℕ) (r : Option SessionParts) → c ≡ codes "--workers" → IfSome r (IsNamed a b d) → IfSome r (IsAlone (a ∷ b ∷ c ∷ d ∷ []))
two_last a b c d r e h = alone Last (c ∷ d ∷ []) (a ∷ b ∷ c ∷ d ∷ []) a b d refl (inl (ap (λ (w : List ℕ). w ∷ d ∷ []) e)) r h
