-- `decoding::decode_with` meets its contract.
-- Assumes nothing.
use mir.Facts.{to_z-of_z}
use mir.Syntax.{w32}
use Rattle.basics.proofs.Kit.{arith}
use Rattle.decoding.proofs.Decodings.{row_60, weight_small, least_small, decoding}
use Rattle.decoding.proofs.decode_with.Goals as goal

pub weight-requires : goal.weight-requires
weight-requires c = row_60 c.requires.input

pub minus-requires : goal.minus-requires
minus-requires c = (omega (arith, c.weight.ensures, weight_small c.requires.input), omega (arith, least_small c.requires.input c.find_word-least.ensures.best))

pub returns : goal.returns
returns c =
    decoding c.requires.input c.find_word-least.ensures.best {za = c.soften.new.zero} {oa = c.soften.new.one} c.soften.ensures.softs {before = c.args.soft.now} c.requires.outputs.length_soft c.soften.ensures.softened
    (to_z-of_z {w = w32} (record { sfits = c.minus.type_inv })) c.minus.ensures c.weight.ensures
