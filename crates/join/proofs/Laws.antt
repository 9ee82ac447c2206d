-- Splitting undoes joining, and joining undoes splitting.
-- Assumes nothing.
use Rattle.basics.proofs.Kit.{◌≡◌, refl, sym, ap, ap₂, ◌∙◌, Bool, true, ◌&&◌, List, [], ◌∷◌, ◌++◌, ℕ, zero, suc, ◌+◌, ◌-◌, ◌*◌, ◌/◌, ◌%◌, ◌^◌, ◌≤◌, ◌<◌, arith, length, get_or, take, drop}
use native.Mathlib.Nat.{zero-lt-suc, zero-add, zero-mul, suc-mul, mul_comm}
use lib.ListN.{replicate, length-drop, take-append-drop, drop_of_length-le}
use lib.Seq.{ext_get_or, take_at, drop_at, drop-drop, length-take-le}
use borrow.Author.Tests.{eqb-true, eq-eqb}
use Rattle.refusal.specs.Refusal.{unless, first}
use Rattle.refusal.proofs.Tests.{passed, first_none, first_free}
use Rattle.refusal.proofs.Outcomes.{outcome_zero, outcome_taken}
use Rattle.field.specs.Field.{width_good}
use Rattle.field.proofs.Tests.{and_l, and_r, to_T, from_T}
use Rattle.code.specs.Code.{long, is_codeword, accepted}
use Rattle.code.specs.Bits.{bits_of, row_long}
use Rattle.code.specs.Calls.{member_refusal}
use Rattle.code.proofs.Accepted.{accepted_parts, width_small, member_accepts, member_taken}
use Rattle.code.proofs.Words.{Below, good, codeword_parts}
use Rattle.split.specs.Split.{layer, syndromes, syndromes_from, cosets, valid, padded, all_below, Configuration, word_number, sum}
use Rattle.split.specs.Calls.{remainders, SplitRight, SplitSays}
use Rattle.split.specs.Promise.{GluedRight, SyndromeInside, OneLeader, PartsAreBch}
use Rattle.split.proofs.Layers as L
use Rattle.split.proofs.Numbers.{number_bits, sum_uncancel}
use Rattle.split.proofs.Glue.{glued_right}
use Rattle.split.proofs.Cosets.{syndrome_inside}
use Rattle.split.proofs.Syndromes.{places}
use Rattle.split.proofs.Leaders.{one_leader}
use Rattle.split.proofs.Whole as W
use Rattle.join.specs.Calls.{part, all_bch, in_range, is_configuration, join_refusal, JoinRight, JoinSays}
use Rattle.join.specs.Promise.{TakenConfigurations, JoinedOne, JoinedCodeword, JoinedSplit, SplitJoined, PartsDiffer}
use Rattle.join.proofs.Bch.{Bch, is_bch_of, bch_each, word_of}
use Rattle.join.proofs.Joining.{syndrome_is, syndromes_are}

-- CONFIGURATIONS
zeros_are : (xs : List ℕ) → Below 1 xs → xs ≡ replicate (length xs) 0
zeros_are [] p = refl
zeros_are (zero ∷ xs) p = ap (λ (l : List ℕ). 0 ∷ l) (zeros_are xs p.1)
zeros_are (suc x ∷ xs) p = absurd (omega (arith, p.0))

zeros_below : (k : ℕ) → Below 1 (replicate k 0)
zeros_below zero = tt
zeros_below (suc k) = (zero-lt-suc 0, zeros_below k)

module _ (m r : ℕ) (ss : List ℕ) (w : width_good m ≡ true) (l : length ss ≡ 4) (e : is_configuration m r ss ≡ true) where
  ranged : in_range m r ss ≡ true
  unfolding is_configuration
  ranged = from_T (in_range m r ss) (and_l (in_range m r ss) _ (to_T e))

  few : length (take m ss) ≡ m
  few = length-take-le m ss (omega (arith, width_small m w))

  is_taken : Configuration m r (take m ss)
  unfolding is_configuration in_range
  is_taken = record {
    count = few;
    syndromes = from_T _ (and_l (all_below (cosets m r) (take m ss)) _ (to_T ranged));
    is_valid = from_T (valid m r (take m ss)) (and_r (in_range m r ss) _ (to_T e));
  }

  is_padded : ss ≡ padded (take m ss)
  unfolding padded in_range
  is_padded =
      let b : Below 1 (drop m ss) = L.below 1 (drop m ss) (and_r (all_below (cosets m r) (take m ss)) _ (to_T ranged)) in
      let n : length (drop m ss) ≡ 4 - length (take m ss) = omega (arith, length-drop m ss, few) in
      sym (take-append-drop m ss) ∙ ap (λ (xs : List ℕ). take m ss ++ xs) (zeros_are (drop m ss) b ∙ ap (λ (k : ℕ). replicate k 0) n)

padded_taken : (m r : ℕ) (ts : List ℕ) → Configuration m r ts → is_configuration m r (padded ts) ≡ true
unfolding is_configuration in_range padded
padded_taken m r ts c =
    let zs : List ℕ = replicate (4 - length ts) 0 in
    ap₂ (λ (a d : List ℕ). (all_below (cosets m r) a && all_below 1 d) && valid m r a) (take_at ts zs m c.count) (drop_at ts zs m c.count)
    ∙ ap₂ (λ (x y : Bool). (x && y) && valid m r ts) c.syndromes (L.all_of 1 zs (zeros_below (4 - length ts))) ∙ c.is_valid

pub taken_configurations : TakenConfigurations
unfolding TakenConfigurations
taken_configurations m r ss a l = let w = (accepted_parts m r a).wide in
    ((λ e. (is_taken m r ss w l e, is_padded m r ss w l e)), (λ ts c. padded_taken m r ts c))

-- WHAT IS TAKEN by a join
record Taken (m r : ℕ) (ss bs : List ℕ) (o : ℕ) : Type 0 where
  count : length bs ≡ row_long m
  room : o ≡ long m
  are_bch : all_bch m 0 m r bs ≡ true
  valid_is : is_configuration m r ss ≡ true

module _ (m r : ℕ) (ss bs : List ℕ) (o : ℕ) where
  join_accepts : join_refusal m r ss bs o ≡ 0 → Taken m r ss bs o
  unfolding join_refusal
  join_accepts e =
      let a = passed _ _ _ e in
      let b = passed _ _ _ a.1 in
      let c = passed _ _ _ b.1 in
      record { count = eqb-true _ _ a.0; room = eqb-true _ _ b.0; are_bch = c.0; valid_is = (passed _ _ _ c.1).0 }

  join_taken : Taken m r ss bs o → join_refusal m r ss bs o ≡ 0
  unfolding join_refusal unless
  join_taken t = rw (eq-eqb _ _ t.count, eq-eqb _ _ t.room, t.are_bch, t.valid_is) refl

-- A WORD IS KNOWN by its layers
same_symbol : (m c d : ℕ) → c < 2 ^ m → d < 2 ^ m → ((j : ℕ) → j < m → c / 2 ^ j % 2 ≡ d / 2 ^ j % 2) → c ≡ d
same_symbol m c d hc hd f =
    let e : bits_of m c ≡ bits_of m d =
    ext_get_or 0 (bits_of m c) (bits_of m d) (L.bits_length m c ∙ sym (L.bits_length m d))
    (λ j h. let k : j < m = omega (arith, L.bits_length m c) in L.at_bits m j c k ∙ f j k ∙ sym (L.at_bits m j d k)) in
    sym (number_bits m c hc) ∙ ap word_number e ∙ number_bits m d hd

same_layers : (m : ℕ) (us ws : List ℕ) → length us ≡ length ws → Below (2 ^ m) us → Below (2 ^ m) ws → ((j : ℕ) → j < m → layer j us ≡ layer j ws) → us ≡ ws
unfolding layer
same_layers m [] [] n p q f = refl
same_layers m [] (x ∷ ws) n p q f = absurd (omega arith)
same_layers m (u ∷ us) [] n p q f = absurd (omega arith)
same_layers m (u ∷ us) (x ∷ ws) n p q f =
    ap₂ ◌∷◌ (same_symbol m u x p.0 q.0 (λ j h. ap (λ (l : List ℕ). get_or l 0 0) (f j h)))
    (same_layers m us ws (omega arith) p.1 q.1 (λ j h. ap (drop 1) (f j h)))

pub joined_one : JoinedOne
unfolding JoinedOne OneLeader
joined_one m r ss bs us ws p q =
    let a = codeword_parts m r us p.codeword in
    let b = codeword_parts m r ws q.codeword in
    same_layers m us ws (a.count ∙ sym b.count) a.symbols b.symbols
    (λ j h. p.layers j h ∙ ap (sum (part m j bs)) (one_leader m r (get_or ss j 0) _ _ (p.lead j h) (q.lead j h)) ∙ sym (q.layers j h))

pub joined_codeword : JoinedCodeword
unfolding JoinedCodeword JoinSays
joined_codeword z m r ss bs o ws j = (outcome_zero _ _ _ j).1.codeword

-- WHAT IS JOINED SPLITS into what it was joined from
module _ (m r : ℕ) (ss bs ws : List ℕ) (o : ℕ) (a : accepted m r ≡ true) (l : length ss ≡ 4) (t : Taken m r ss bs o) (p : JoinRight m r ss bs ws) where
  wide : width_good m ≡ true
  wide = (accepted_parts m r a).wide

  n_is : length ws ≡ long m
  n_is = (codeword_parts m r ws p.codeword).count

  each : (j : ℕ) → j < m → Bch m r (part m j bs)
  each = word_of m r bs t.count t.are_bch

  enough : m ≤ length ss
  enough = omega (arith, width_small m wide)

  -- what is left of a layer is its BCH word
  piece : (j : ℕ) → j < m → sum (layer j ws) (p.leaders j) ≡ part m j bs
  piece j h =
      ap (λ (x : List ℕ). sum x (p.leaders j)) (p.layers j h)
      ∙ sum_uncancel (part m j bs) (p.leaders j) ((each j h).binary.count ∙ sym (p.lead j h).binary.count)

  pieces : (k j : ℕ) → j + k ≡ m → remainders k j p.leaders ws ≡ drop (j * long m) bs
  unfolding remainders part row_long
  pieces zero j e =
      let i : j ≡ m = omega arith in
      let f : length bs ≤ j * long m = omega (arith, t.count ∙ mul_comm (long m) m ∙ ap (λ (x : ℕ). x * long m) (sym i)) in
      sym (drop_of_length-le bs f)
  pieces (suc k) j e =
      ap₂ ◌++◌ (piece j (omega arith)) (pieces k (suc j) (omega arith) ∙ ap (λ (i : ℕ). drop i bs) (suc-mul j (long m)) ∙ sym (drop-drop (long m) (j * long m) bs))
      ∙ take-append-drop (long m) (drop (j * long m) bs)

  splits : SplitRight m r ws ss bs
  splits = record {
    tuple =
        is_padded m r ss wide l t.valid_is
        ∙ ap padded (sym (syndromes_are m r ss bs ws p.leaders wide n_is enough each p.lead p.layers));
    leaders = p.leaders;
    lead = λ j h. rw (syndrome_is m r ss bs ws p.leaders wide n_is enough each p.lead p.layers j h) (p.lead j h);
    left = sym (pieces m 0 (zero-add m) ∙ ap (λ (i : ℕ). drop i bs) (zero-mul (long m)));
  }

-- A SPLIT leaves no choice
same_remainders : (ws : List ℕ) (f g : ℕ → List ℕ) (k j : ℕ) → ((i : ℕ) → i < j + k → f i ≡ g i) → remainders k j f ws ≡ remainders k j g ws
unfolding remainders
same_remainders ws f g zero j e = refl
same_remainders ws f g (suc k) j e =
    ap₂ (λ (x y : List ℕ). sum (layer j ws) x ++ y) (e j (omega arith)) (same_remainders ws f g k (suc j) (λ i h. e i (omega arith)))

one_split : (m r : ℕ) (ws ss ts bs ds : List ℕ) → SplitRight m r ws ss bs → SplitRight m r ws ts ds → (ss ≡ ts) × (bs ≡ ds)
unfolding OneLeader
one_split m r ws ss ts bs ds p q = (
  p.tuple ∙ sym q.tuple,
  p.left ∙ same_remainders ws p.leaders q.leaders m 0 (λ i h. let k : i < m = omega arith in one_leader m r _ _ _ (p.lead i k) (q.lead i k)) ∙ sym q.left,
)

-- what an accepted join says
module _ (z m r : ℕ) (ss bs o ws : List ℕ) (good : z ≡ 0 → accepted m r ≡ true) (l : length ss ≡ 4) (j : JoinSays z m r ss bs 0 o ws) where
  nothing : (first z (join_refusal m r ss bs (length o)) ≡ 0) × JoinRight m r ss bs ws
  unfolding JoinSays
  nothing = outcome_zero _ _ _ j

  chosen : z ≡ 0
  chosen = (first_none _ _ nothing.0).0

  back : SplitRight m r ws ss bs
  back = splits m r ss bs ws (length o) (good chosen) l (join_accepts m r ss bs (length o) (first_none _ _ nothing.0).1) nothing.1

pub parts_differ : PartsDiffer
unfolding PartsDiffer
parts_differ z m r ss ts bs ds o q ws a l k i j = one_split m r ws ss ts bs ds (back z m r ss bs o ws a l i) (back z m r ts ds q ws a k j)

pub joined_split : JoinedSplit
unfolding JoinedSplit SplitSays
joined_split z m r answer ss ts bs o ws q u g l j n s =
    let c = codeword_parts m r ws (nothing z m r ss bs o ws g l j).1.codeword in
    let t : member_refusal m r ws (length q) (row_long m) ≡ 0 =
    member_taken m r ws (length q) (row_long m) (record { count = c.count; room = n; codeword = (nothing z m r ss bs o ws g l j).1.codeword }) (good m ws c.symbols) in
    let d : (answer ≡ 0) × SplitRight m r ws ts u = outcome_taken _ _ _ _ (first_free _ _ (chosen z m r ss bs o ws g l j) t) s in
    let e = one_split m r ws ts ss u bs d.1 (back z m r ss bs o ws g l j) in
    (d.0, e.0, e.1)

-- WHAT WAS SPLIT JOINS to the codeword
module _ (m r : ℕ) (ws ss bs : List ℕ) (a : accepted m r ≡ true) (c : is_codeword m r ws ≡ true) (p : SplitRight m r ws ss bs) where
  w : width_good m ≡ true
  w = (accepted_parts m r a).wide

  count : length ws ≡ long m
  count = (codeword_parts m r ws c).count

  its_bch : (j : ℕ) → j < m → Bch m r (part m j bs)
  unfolding PartsAreBch part
  its_bch j h = let b = (W.parts_are_bch m r ws ss bs w count p).1 j h in record { binary = b.0; none = b.1 }

  inside : (k j : ℕ) → Below (cosets m r) (syndromes_from k j m r ws)
  unfolding syndromes_from SyndromeInside
  inside zero j = tt
  inside (suc k) j = (syndrome_inside m r (layer j ws) w (L.layer_binary m j ws count), inside k (suc j))

  its_configuration : Configuration m r (syndromes m r ws)
  unfolding syndromes GluedRight
  its_configuration = record {
    count = places m r ws;
    syndromes = L.all_of (cosets m r) (syndromes m r ws) (inside m 0);
    is_valid = sym (glued_right m r ws w (accepted_parts m r a).six count (good m ws (codeword_parts m r ws c).symbols)) ∙ c;
  }

  its_taken : (o : ℕ) → o ≡ long m → Taken m r ss bs o
  unfolding PartsAreBch
  its_taken o e = record {
    count = (W.parts_are_bch m r ws ss bs w count p).0;
    room = e;
    are_bch = bch_each m r bs m 0 (λ j h. rw (zero-add j) (is_bch_of m r (part m j bs) (its_bch j h)));
    valid_is = ap (is_configuration m r) p.tuple ∙ padded_taken m r (syndromes m r ws) its_configuration;
  }

  joins : JoinRight m r ss bs ws
  unfolding part
  joins = record {
    codeword = c;
    leaders = p.leaders;
    lead = λ j h. rw (W.its_place m r ws ss a count p.tuple j h) (p.lead j h);
    layers = λ j h.
        sym (ap (λ (x : List ℕ). sum x (p.leaders j)) (W.part m r ws ss bs count p j h)
        ∙ sum_uncancel (layer j ws) (p.leaders j) (L.layer_length j ws ∙ count ∙ sym (p.lead j h).binary.count));
  }

pub split_joined : SplitJoined
unfolding SplitJoined SplitSays JoinSays JoinedOne
split_joined z m r answer ws ss q bs o u g s n j =
    let f : (first z (member_refusal m r ws (length q) (row_long m)) ≡ 0) × SplitRight m r ws ss bs = outcome_zero _ _ _ s in
    let h = first_none _ _ f.0 in
    let y = g h.0 in
    let c = (member_accepts m r ws (length q) (row_long m) h.1).codeword in
    let t = join_taken m r ss bs (length o) (its_taken m r ws ss bs y c f.1 (length o) n) in
    let d : (answer ≡ 0) × JoinRight m r ss bs u = outcome_taken _ _ _ _ (first_free _ _ h.0 t) j in
    (d.0, joined_one m r ss bs u ws d.1 (joins m r ws ss bs y c f.1))
