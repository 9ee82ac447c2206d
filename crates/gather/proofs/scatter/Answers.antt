use Rattle.std.proofs.Common.{◌∙◌}
use Rattle.std.proofs.lemmas.List.{length-take-le, take_at}
use Rattle.gather.proofs.Entries.{others_same}
use Rattle.gather.proofs.scatter.Goals as goal

pub returns-clause-scattered : goal.returns-clause-scattered
returns-clause-scattered c =
    let r = c.requires in
    rw (take_at c.lower_places.new.a _ _ (c.lower_places.auto.a ∙ length-take-le _ c.args.room.now r.states_in))
    (record { others = λ x h. c.lower_places.ensures.scattered.others x h ∙ others_same c.args.cap c.args.places.now c.less_own.ensures r.length_g x })
