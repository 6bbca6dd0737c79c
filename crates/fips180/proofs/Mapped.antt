-- What a read or a write of an element is to the list of the values.
use Rattle.std.proofs.Common.{◌≡◌, ℕ, ◌+◌, ◌-◌, ◌*◌, ◌<◌, ◌≤◌, List, [], ◌++◌, map, length, get_or, take, drop, set, sym, ap, ◌∙◌, mul-le-mul_left, mul-one, mul-add, arith}
use Rattle.std.specs.List.{flat_map}
use borrow.Rule.Slice.PartMut.{put_mid}
use Rattle.std.proofs.lemmas.List.{get_or-map, map-set, map-append, length-map, length-append, length-drop, take-map, drop-map, take_all, take_at, take_more, take_more_set, flat_map_more}
use Rattle.std.proofs.lemmas.Slice.{take-put_mid}
use Rattle.base.specs.Bytes.{digits}
use Rattle.base.proofs.Numbers.{length-digits}

pub read-map : {X : Type 0} (f : X → ℕ) (xs : List X) (i : ℕ) (x : X) → i < length xs → x ≡ get_or xs i x → f x ≡ get_or (map f xs) i 0
read-map f xs i x h e = ap f e ∙ sym (get_or-map f xs i x 0 h)

-- the (i + 1)-th of n words of b bytes lies within all of them
pub slot_fits : (b i n m : ℕ) → i < n → m ≡ b * n → b * (i + 1) ≤ m
slot_fits b i n m h e = let l : i + 1 ≤ n = omega arith in omega (arith, mul-le-mul_left b l)

-- one place more of xs is filled
pub filled_more : {X : Type 0} (f : X → ℕ) (xs : List X) (ws : List ℕ) (i : ℕ) (x : X) → i < length xs → i < length ws → f x ≡ get_or ws i 0
    → take i (map f xs) ≡ take i ws → take (i + 1) (map f (set xs i x)) ≡ take (i + 1) ws
filled_more f xs ws i x h l e inv =
    let m : i < length (map f xs) = simp length-map h in
    rw (map-set f xs i x, take_more_set (map f xs) i (f x) m, inv, e, take_more ws i 0 l)

-- what stands from n on
pub rest_of : {X : Type 0} (f : X → ℕ) (n : ℕ) (xs ys : List X) → ys ≡ take (length xs - n) (drop n xs) → map f ys ≡ drop n (map f xs)
rest_of f n xs ys e =
    let l : length (drop n xs) ≤ length xs - n = simp length-drop (omega arith) in
    ap (map f) (e ∙ take_all (length xs - n) (drop n xs) l) ∙ sym (drop-map f n xs)

-- two halves are copied to the front
pub loaded : {X : Type 0} (f : X → ℕ) (left right a b rest : List X) → length left ≡ 8 → length right ≡ 8 → a ≡ left → b ≡ right
    → take 16 (map f (put_mid 8 8 (a ++ rest) b)) ≡ map f left ++ map f right
loaded {X} f left right a b rest el er ea eb =
    rw (ea, eb)
    (take-map f 16 (put_mid 8 8 (left ++ rest) right)
    ∙ ap (map f) (take-put_mid 8 8 (left ++ rest) right 16 (omega arith) (simp length-append (omega arith)) ∙ ap (λ (xs : List X). xs ++ right) (take_at left rest 8 el))
    ∙ map-append f left right)

-- one word more is written to its place
pub written_more : (b n i y : ℕ) (out part ws : List ℕ) → n ≡ b → i < length ws → b * (i + 1) ≤ length out → y ≡ get_or ws i 0 → part ≡ digits b y
    → take (b * i) out ≡ flat_map (digits b) (take i ws) → take (b * (i + 1)) (put_mid (n * i) (n * (i + 1) - n * i) out part) ≡ flat_map (digits b) (take (i + 1) ws)
written_more b n i y out part ws en hi ho ey ep inv =
    let m : b * (i + 1) ≡ b * i + length part = omega (arith, mul-add b i 1, mul-one b, ap length ep, length-digits b y) in
    rw (en, take-put_mid (b * i) (b * (i + 1) - b * i) out part (b * (i + 1)) m (omega arith), inv, ep, ey, take_more ws i 0 hi, flat_map_more (digits b) [] (take i ws) (get_or ws i 0))
