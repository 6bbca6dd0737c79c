-- The whole compression, and what it yields.
use Rattle.std.proofs.Common.{◌≡◌, ℕ, zero, suc, ◌*◌, ◌/◌, ◌%◌, ◌<◌, List, [], ◌∷◌, ◌++◌, length, sym, ap, ◌∙◌, ap₂, suc-mul, zero-mul, arith}
use Rattle.std.specs.List.{flat_map}
use Rattle.std.proofs.lemmas.List.{length-append}
use Rattle.std.proofs.ByRecursion.{All-append}
use Rattle.base.specs.Bytes.{Bytes, digits}
use Rattle.base.proofs.Numbers.{length-digits}
use Rattle.fips180.specs.Words.{Sizes}
use Rattle.fips180.specs.Compression.{words, state_of, listed, added, worked, compressed, half_fixed}
use Rattle.fips180.specs.declared.state.State.{State}
use Rattle.fips180.proofs.Strings.{words_append}

-- the words of two halves are those of the block
pub halves_words : (z : Sizes) → 0 < z.bytes → (left right : List ℕ) {ls rs : List ℕ} → length left ≡ z.bytes * 8 → ls ≡ words z left → rs ≡ words z right → ls ++ rs ≡ words z (left ++ right)
halves_words z p left right l el er = ap₂ (λ (a b : List ℕ). a ++ b) el er ∙ sym (words_append z p 8 left right l)

-- the steps of the code, joined: `hs`, `ls` and `rs` are the words of the chaining value and of the halves, and `ws` those that are written
pub compressed_from : (z : Sizes) → 0 < z.bytes → (h left right : List ℕ) {hs ls rs ws out : List ℕ} {s t : State ℕ} → length left ≡ z.bytes * 8
    → hs ≡ words z h → ls ≡ words z left → rs ≡ words z right → s ≡ state_of hs → t ≡ added z (worked z s (ls ++ rs)) s → ws ≡ listed t
    → out ≡ flat_map (digits z.bytes) ws → out ≡ half_fixed z left h right
unfolding compressed half_fixed
compressed_from z p h left right {hs} {ls} {rs} {ws} {out} {s} {t} l eh el er es et ew eo =
    eo ∙ ap (flat_map (digits z.bytes)) (ew ∙ ap listed (et ∙ ap₂ (λ (u : State ℕ) (block : List ℕ). added z (worked z u block) u) (es ∙ ap state_of eh) (halves_words z p left right l el er)))

length-joined : (b : ℕ) (xs : List ℕ) → length (flat_map (digits b) xs) ≡ length xs * b
length-joined b [] = sym (zero-mul b)
length-joined b (x ∷ xs) =
    length-append (digits b x) (flat_map (digits b) xs) ∙ omega (arith, length-digits b x, length-joined b xs, suc-mul (length xs) b)

Bytes-digits : (b x : ℕ) → Bytes (digits b x)
Bytes-digits zero x = tt
Bytes-digits (suc b) x = All-append (λ y. y < 256) (digits b (x / 256)) (x % 256 ∷ []) (Bytes-digits b (x / 256)) (omega arith, tt)

Bytes-joined : (b : ℕ) (xs : List ℕ) → Bytes (flat_map (digits b) xs)
Bytes-joined b [] = tt
Bytes-joined b (x ∷ xs) = All-append (λ y. y < 256) (digits b x) (flat_map (digits b) xs) (Bytes-digits b x) (Bytes-joined b xs)

length-compressed : (z : Sizes) (h block : List ℕ) → length (compressed z h block) ≡ 8 * z.bytes
unfolding compressed
length-compressed z h block = length-joined z.bytes (listed (added z (worked z (state_of (words z h)) (words z block)) (state_of (words z h))))

Bytes-compressed : (z : Sizes) (h block : List ℕ) → Bytes (compressed z h block)
unfolding compressed
Bytes-compressed z h block = Bytes-joined z.bytes (listed (added z (worked z (state_of (words z h)) (words z block)) (state_of (words z h))))

-- eight words, in bytes
pub length-half_fixed : (z : Sizes) (half h m : List ℕ) → length (half_fixed z half h m) ≡ 8 * z.bytes
unfolding half_fixed
length-half_fixed z half h m = length-compressed z h (half ++ m)

pub Bytes-half_fixed : (z : Sizes) (half h m : List ℕ) → Bytes (half_fixed z half h m)
unfolding half_fixed
Bytes-half_fixed z half h m = Bytes-compressed z h (half ++ m)
