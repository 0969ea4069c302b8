-- The product fits its type: the factors are at most 2 ^ 31 and 2 ^ 32 - 1.
use Rattle.std.proofs.Common.{w64, arith, pos, ◌≤◌, ◌^◌}
use Rattle.std.specs.Int.RustNames.{unsigned_abs}
use Rattle.std.proofs.lemmas.Int.{to_z-of_z, fits_signed_mul}
use Rattle.isa_table.proofs.arithmetic.mixed_product.Goals as goal

pub overflow_mul-result : goal.overflow_mul-result
overflow_mul-result c =
    let first : unsigned_abs c.args.a ≤ 2 ^ 31 = grind (arith, c.ranges.a.sfits) in
    let second : c.args.b ≤ 4294967295 = omega (arith, c.ranges.b.fits) in
    let product_fits = fits_signed_mul w64 c.args.a (pos c.args.b) (2 ^ 31) 4294967295 first second (omega arith) in
    grind (arith, to_z-of_z)
