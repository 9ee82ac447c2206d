-- The table of specs/Values.antt, from the definitions: what is finite is computed, and a message has one codeword.
-- Assumes nothing.
use Rattle.basics.proofs.Kit.{◌≡◌, refl, ap, ◌∙◌, true, List, ℕ, arith, length}
use Rattle.field.specs.Field.{xor, times, times_from, doubled, alpha}
use Rattle.code.specs.Code.{code_good, number_refusal, width, roots, long, message_long, value_from, value_at, vanishes, symbols_good, is_codeword, message}
use Rattle.code.specs.Bits.{row_long}
use Rattle.refusal.specs.Refusal.{unless, first}
use Rattle.refusal.proofs.Tests.{first_none}
use Rattle.code.specs.Calls.{EncodeSays, encode_refusal}
use Rattle.code.specs.Promise.{EncodesOnce}
use Rattle.code.proofs.Accepted.{width_fine, roots_few, encode_accepts, outcome_done, outcome_taken}
use Rattle.code.proofs.Promise.{encodes_once}
use Rattle.split.proofs.Worked as split
use Rattle.metric.proofs.Worked as metric
use Rattle.quantiser.proofs.Worked as quantiser
use Rattle.values.specs.Values.{EncodesTo, OnRecord}

-- a codeword with this message is the one that `encode` writes
encodes :
    (c : ℕ) (ms ws : List ℕ) → first (number_refusal c) (encode_refusal (width c) (roots c) ms (long (width c))) ≡ 0 → is_codeword (width c) (roots c) ws ≡ true →
    message (roots c) ws ≡ ms → EncodesTo c ms ws
unfolding EncodeSays EncodesOnce
encodes c ms ws taken g e =
    let m = width c in
    let r = roots c in
    let w = encode_accepts m r (width_fine c) (roots_few c) ms (long m) (first_none _ _ taken).1 in
    let fits : (o : List ℕ) → length o ≡ long m → first (number_refusal c) (encode_refusal m r ms (length o)) ≡ 0 =
    λ o n. ap (λ (x : ℕ). first (number_refusal c) (encode_refusal m r ms x)) n ∙ taken in
    record {
      met = λ o n. outcome_done _ _ _ _ (fits o n) refl (g, e);
      only =
          λ answer o p n s.
          let d : (answer ≡ 0) × ((is_codeword m r p ≡ true) × (message r p ≡ ms)) = outcome_taken _ answer _ _ (fits o n) s in (
            d.0,
            (encodes_once m r ms (width_fine c) (omega (arith, roots_few c)) w.count w.symbols).1 p ws d.1.0 g d.1.1 e,
          );
    }

pub on_record : OnRecord
unfolding code_good number_refusal first width roots long message_long row_long xor times times_from doubled alpha value_from value_at vanishes symbols_good is_codeword message encode_refusal unless
on_record =
    record {
      first_word = encodes 1 _ _ refl refl refl;
      its_configuration = split.first_word;
      word_of_code_2 = encodes 2 _ _ refl refl refl;
      word_of_code_3 = encodes 3 _ _ refl refl refl;
      second_word = (split.second_word).0;
      with_configuration = (split.second_word).1;
      no_codeword = refl;
      all_10 = (metric.on_record).0;
      all_zero = (metric.on_record).1;
      of_1 = record { is = (quantiser.samples_on_record).0; gives = (quantiser.on_record).0 };
      of_64th = record { is = (quantiser.samples_on_record).1; gives = (quantiser.on_record).1 };
      of_minus_64th = record { is = (quantiser.samples_on_record).2; gives = (quantiser.on_record).2 };
      of_3_984375 = record { is = (quantiser.samples_on_record).3; gives = (quantiser.on_record).3 };
    }
