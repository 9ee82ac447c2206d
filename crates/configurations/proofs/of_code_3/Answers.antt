-- The constant table is compared with the list of which `TableRight` speaks.
use Rattle.basics.proofs.Kit.{refl}
use Rattle.field.specs.Field.{xor, times, times_from, doubled, alpha}
use Rattle.configurations.specs.Configurations.{tuple_of, listed_from, listed}
use Rattle.configurations.proofs.of_code_3.Goals as goal

pub returns : goal.returns
unfolding xor times times_from doubled alpha tuple_of listed_from listed
returns c = refl
