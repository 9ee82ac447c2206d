use mir.Facts.{to_z-of_z}
use Rattle.text.proofs.Fields.{sign_is}
use Rattle.text.proofs.Writing.{puts_nothing}
use Rattle.text.proofs.Writer.put_sign.Goals as goal

pub put_byte-requires : goal.put_byte-requires
put_byte-requires c =
    let e = rw (to_z-of_z c.ranges.z) at c.if-z-lt0.true in
    rw (sign_is c.args.z, e) at c.requires

pub returns-then-z-lt0 : goal.returns-then-z-lt0
returns-then-z-lt0 c =
    let e = rw (to_z-of_z c.ranges.z) at c.if-z-lt0.true in
    rw (sign_is c.args.z, e) c.put_byte.ensures

pub returns-else-z-lt0 : goal.returns-else-z-lt0
returns-else-z-lt0 c =
    let e = rw (to_z-of_z c.ranges.z) at c.if-z-lt0.false in
    rw (sign_is c.args.z, e) (puts_nothing c.args.self.now (rw (sign_is c.args.z, e) at c.requires))
