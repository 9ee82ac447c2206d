-- `decoder::decode` meets its contract.
-- Assumes nothing.
use mir.Facts.{to_z-of_z}
use mir.Syntax.{w32}
use Rattle.basics.proofs.Kit.{refl, sym, ◌∙◌, length, rules}
use Rattle.refusal.proofs.Results.{handed_on}
use Rattle.code.proofs.Chosen.{choice_refused, call_refused, call_done}
use Rattle.search.proofs.Roomed.{cleared_is}
use Rattle.decoder.specs.Calls.{decode_refusal, DecodeSays}
use Rattle.decoder.proofs.Refusals.{decode_accepted}
use Rattle.decoder.proofs.decode.Goals as goal

pub returns-in_err-shape : goal.returns-in_err-shape
unfolding DecodeSays
returns-in_err-shape c =
    rw (handed_on c.from_residual.result _ c.from_residual.ensures.1) (choice_refused c.args.choice c.shape.result c.shape.ensures.refused _ _ _ _ c.in_err-shape.was (refl, refl, refl, refl))

pub returns-in_err-check_decode : goal.returns-in_err-check_decode
unfolding DecodeSays
returns-in_err-check_decode c =
    let s = c.shape.ensures in
    rw (handed_on c.from_residual-in_err-check_decode.result _ c.from_residual-in_err-check_decode.ensures.1)
    (call_refused c.args.choice c.shape.result s.refused (λ m r. decode_refusal m c.args.row.now (length c.args.word.now) (length c.args.soft.now) (length c.args.scratch.now)) s.m s.r _ c.in_ok-shape.was c.check_decode.result c.check_decode.ensures _ _ _ c.in_err-check_decode.was (refl, refl, refl, refl))

pub decode_accepted-metric-requires : goal.decode_accepted-metric-requires
decode_accepted-metric-requires c = decode_accepted c.in_ok-shape.shape _ _ _ _ (sym c.in_ok-check_decode.ensures)

pub returns : goal.returns
unfolding DecodeSays
returns c =
    let s = c.shape.ensures in
    call_done c.args.choice c.shape.result s.refused (λ m r. decode_refusal m c.args.row.now (length c.args.word.now) (length c.args.soft.now) (length c.args.scratch.now)) s.m s.r _ c.in_ok-shape.was c.check_decode.result c.check_decode.ensures _ _ _ c.in_ok-check_decode.was (
      rw (← c.in_ok-shape.ensures.m, ← c.in_ok-shape.ensures.r, to_z-of_z {w = w32} (record { sfits = c.decode_accepted-metric.type_inv })) c.decode_accepted-metric.ensures,
      cleared_is _ (search rules) (c.decode_accepted-metric.auto.scratch ∙ (decode_accepted c.in_ok-shape.shape _ _ _ _ (sym c.in_ok-check_decode.ensures)).long_scratch),
    )
