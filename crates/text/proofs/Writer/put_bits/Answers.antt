use Rattle.basics.proofs.Kit.{refl, arith}
use Rattle.text.specs.Text.{bits_field}
use Rattle.text.proofs.Fields.{bits_length}
use Rattle.text.proofs.Writing.{stored}
use Rattle.text.proofs.Writer.put_bits.Goals as goal

pub slice_bounds-fill_bits-end : goal.slice_bounds-fill_bits-end
slice_bounds-fill_bits-end c = omega (arith, bits_length c.args.soft.now, c.requires.room)

pub returns : goal.returns
returns c =
    let w = c.args.self.now in
    let e = bits_length c.args.soft.now in
    record { same_reference = refl; written = rw e at (stored w.at (bits_field c.args.soft.now) _ w.out.now c.requires.room c.fill_bits.ensures) }
