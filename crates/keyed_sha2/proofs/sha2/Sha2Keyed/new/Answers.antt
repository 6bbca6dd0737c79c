use Rattle.std.proofs.Common.{◌≡◌, ℕ, ◌+◌, ◌*◌, sym, ap, ◌∙◌, arith}
use Rattle.std.proofs.lemmas.List.{replicate-append-replicate, take-replicate}
use Rattle.base.specs.Bytes.{zeros, filled}
use Rattle.fips180.specs.Compression.{half_fixed}
use Rattle.keyed_sha2.proofs.sha2.Sha2Keyed.new.Goals as goal

-- zeros filled by zeros
filled-zeros : (n w : ℕ) → filled w (zeros n) ≡ zeros w
unfolding filled
filled-zeros n w = rw (replicate-append-replicate {A = ℕ} n w 0) (take-replicate {X = ℕ} w (n + w) 0 (omega arith))

pub returns : goal.returns
returns g c =
    let z = g.W.Bits.sizes in
    ap (half_fixed z) (ap zeros g.met.W.Member.fits.0 ∙ sym (filled-zeros 32 (8 * z.bytes)))
