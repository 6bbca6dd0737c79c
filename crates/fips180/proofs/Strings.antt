-- The words of a string of bytes.
use Rattle.std.proofs.Common.{◌≡◌, ℕ, zero, suc, ◌+◌, ◌-◌, ◌*◌, ◌<◌, ◌≤◌, List, [], ◌∷◌, ◌++◌, map, length, get_or, take, drop, sym, ap, ◌∙◌, mul-zero, mul-one, mul-suc, mul-add, arith}
use lib.Seq.{take-append-le}
use Rattle.std.proofs.lemmas.List.{drop-drop, drop-append-le, length-drop, length-append}
use Rattle.base.specs.Bytes.{number}
use Rattle.base.proofs.Cuts.{cut_more, cut-nil}
use Rattle.fips180.specs.Words.{Sizes}
use Rattle.fips180.specs.Compression.{words}

pub words-nil : (z : Sizes) → words z [] ≡ []
unfolding words
words-nil z = ap (map number) (cut-nil z.bytes)

words_more : (z : Sizes) → 0 < z.bytes → (x : List ℕ) → 0 < length x → words z x ≡ number (take z.bytes x) ∷ words z (drop z.bytes x)
unfolding words
words_more z p x h = ap (map number) (cut_more z.bytes p x h)

-- the i-th word
pub words_at : (z : Sizes) → 0 < z.bytes → (x : List ℕ) (i : ℕ) → z.bytes * (i + 1) ≤ length x → number (take z.bytes (drop (z.bytes * i) x)) ≡ get_or (words z x) i 0
words_at z p x zero h =
    let b = z.bytes in
    let e : b * 0 ≡ 0 = mul-zero b in
    let l : 0 < length x = omega (arith, mul-one b) in
    ap (λ (k : ℕ). number (take b (drop k x))) e ∙ ap (λ (ws : List ℕ). get_or ws 0 0) (sym (words_more z p x l))
words_at z p x (suc i) h =
    let b = z.bytes in
    let e : b + b * i ≡ b * suc i = omega (arith, mul-suc b i) in
    let e' : b * (suc i + 1) ≡ b * (i + 1) + b = omega (arith, mul-add b (suc i) 1, mul-add b i 1, mul-suc b i, mul-one b) in
    let l : 0 < length x = omega arith in
    let l' : b * (i + 1) ≤ length (drop b x) = simp length-drop (omega arith) in
    ap (λ (k : ℕ). number (take b (drop k x))) (sym e)
    ∙ ap (λ (xs : List ℕ). number (take b xs)) (sym (drop-drop (b * i) b x))
    ∙ words_at z p (drop b x) i l'
    ∙ ap (λ (ws : List ℕ). get_or ws (suc i) 0) (sym (words_more z p x l))

pub words_length : (z : Sizes) → 0 < z.bytes → (n : ℕ) (x : List ℕ) → length x ≡ z.bytes * n → length (words z x) ≡ n
words_length z p zero [] e = ap length (words-nil z)
words_length z p zero (x ∷ xs) e = absurd (let h : suc (length xs) ≡ 0 = e ∙ mul-zero z.bytes in omega arith)
words_length z p (suc n) x e =
    let b = z.bytes in
    let l : 0 < length x = omega (arith, mul-suc b n) in
    let d : length (drop b x) ≡ b * n = simp length-drop (omega (arith, mul-suc b n)) in
    ap length (words_more z p x l) ∙ ap suc (words_length z p n (drop b x) d)

-- n whole words in front
pub words_append : (z : Sizes) → 0 < z.bytes → (n : ℕ) (x y : List ℕ) → length x ≡ z.bytes * n → words z (x ++ y) ≡ words z x ++ words z y
words_append z p zero [] y e = ap (λ (ws : List ℕ). ws ++ words z y) (sym (words-nil z))
words_append z p zero (x ∷ xs) y e = absurd (let h : suc (length xs) ≡ 0 = e ∙ mul-zero z.bytes in omega arith)
words_append z p (suc n) x y e =
    let b = z.bytes in
    let l : b ≤ length x = omega (arith, mul-suc b n) in
    let l' : 0 < length x = omega arith in
    let l'' : 0 < length (x ++ y) = simp length-append (omega arith) in
    let d : length (drop b x) ≡ b * n = simp length-drop (omega (arith, mul-suc b n)) in
    words_more z p (x ++ y) l''
    ∙ rw (take-append-le b x y l, drop-append-le b x y l)
    (ap (λ (ws : List ℕ). number (take b x) ∷ ws) (words_append z p n (drop b x) y d)
    ∙ ap (λ (ws : List ℕ). ws ++ words z y) (sym (words_more z p x l')))

-- the part of a string that is its i-th word
pub word_of : (z : Sizes) → 0 < z.bytes → (x : List ℕ) (b i : ℕ) → b ≡ z.bytes → z.bytes * (i + 1) ≤ length x → number (take (b * (i + 1) - b * i) (drop (b * i) x)) ≡ get_or (words z x) i 0
word_of z p x b i e h =
    let k : b * (i + 1) - b * i ≡ b = omega (arith, mul-add b i 1, mul-one b) in
    rw (k, e) (words_at z p x i h)
