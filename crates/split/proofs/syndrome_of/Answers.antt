-- One position more, and the lowest bits of the sum of all of them.
use Rattle.basics.proofs.Kit.{◌≡◌, sym, ap, ap₂, ◌∙◌, [], ◌∷◌, ◌++◌, ℕ, ◌+◌, ◌%◌, ◌^◌, ◌≤◌, arith, length, rules}
use Rattle.std.proofs.Math.Pow.{pow_mono}
use Rattle.std.proofs.lemmas.Slice.Zip.{zip_turn, zip_end}
use Rattle.std.proofs.lemmas.List.{length_push}
use Rattle.field.specs.Field.{xor}
use Rattle.field.proofs.Xor as X
use Rattle.code.specs.Code.{syndrome_long}
use Rattle.code.specs.declared.shape.Shape.{Shape}
use Rattle.code.proofs.Accepted.{accepted_parts, syndrome_room}
use Rattle.code.proofs.Loops.{long_small}
use Rattle.split.specs.Split.{layer, columns_from}
use Rattle.split.specs.Promise.{SyndromeColumns}
use Rattle.split.proofs.Layers as L
use Rattle.split.proofs.Columns.{syndrome_columns, masked, column_step, column_end}
use Rattle.split.proofs.syndrome_of.Goals as goal

pub loop-symbol-init : goal.loop-symbol-init
loop-symbol-init c = ((tt, tt), tt, X.zero_l _)

pub bit-requires : goal.bit-requires
bit-requires c = omega (arith, c.requires.inside, L.width_small c.args.shape.m c.args.shape.numbers.width_is)

pub loop-symbol-preserved : goal.loop-symbol-preserved
unfolding xor
loop-symbol-preserved c =
    let t = zip_turn c.args.word.now c.columns_of-columns.result c.loop-symbol.yielded c.into_iter-symbol-iterator.result c.loop-symbol.symbol-iterator c.next.new.self _ (cc) (cc)
    c.loop-symbol.yielded_by (c.in-Some.symbol, c.in-Some.column) c.in-Some.is c.next.ensures.steps in
    let i = length c.loop-symbol.yielded in
    let n : length (c.loop-symbol.yielded ++ (c.in-Some.symbol, c.in-Some.column) ∷ []) ≡ i + 1 = length_push c.loop-symbol.yielded (c.in-Some.symbol, c.in-Some.column) in
    let h = c.columns_of-columns.ensures.each i (rw (← c.requires.count) t.0) in
    ((tt, tt), tt, rw (n, c.where_odd-sum.ensures, c.into.ensures, c.bit.ensures, t.2 0, t.3 0) (column_step c.args.shape.m c.args.j i c.loop-symbol.sum _ c.args.word.now t.0 h ∙ c.loop-symbol.invariant.2))

-- the number of cosets
size_is : (s : Shape) → s.size ≡ 2 ^ syndrome_long s.m s.r
size_is s = s.numbers.size_is ∙ ap (λ (q : ℕ). 2 ^ q) s.numbers.q_is

size_small : (s : Shape) → s.size ≤ 32768
size_small s =
    let z = s.numbers in
    let six = (accepted_parts s.m s.r z.accepted_is).six in
    let f : syndrome_long s.m s.r ≤ 15 = omega (arith, (syndrome_room s.m s.r z.width_is six).1, long_small s.m z.width_is) in
    rw (size_is s) (pow_mono {j = 15} f)

pub overflow_cast-result : goal.overflow_cast-result
overflow_cast-result c = omega (arith, size_small c.args.shape)

pub returns : goal.returns
unfolding SyndromeColumns
returns c =
    let t = zip_end c.args.word.now c.columns_of-columns.result c.loop-symbol.yielded c.into_iter-symbol-iterator.result c.loop-symbol.symbol-iterator c.next.new.self _ (cc) (cc)
    c.loop-symbol.yielded_by c.in-None.is c.next.ensures.steps in
    let s = c.args.shape in
    let z = s.numbers in
    let i = length c.loop-symbol.yielded in
    let bs = layer c.args.j c.args.word.now in
    let n : length bs ≡ length c.args.word.now = L.layer_length c.args.j c.args.word.now in
    let fifteen : length c.columns_of-columns.result ≡ 15 = search rules in
    let enough : length bs ≤ i = omega (arith, t, n, fifteen, c.requires.count, long_small s.m z.width_is) in
    let sum : c.loop-symbol.sum ≡ columns_from s.m 6 0 bs = sym (column_end s.m i c.loop-symbol.sum bs enough) ∙ c.loop-symbol.invariant.2 in
    ap₂ (λ (x y : ℕ). x % y) sum (size_is s) ∙ masked s.m s.r 0 bs z.accepted_is (omega (arith, n, c.requires.count))
    ∙ sym (syndrome_columns s.m s.r bs z.width_is (L.layer_binary s.m c.args.j c.args.word.now c.requires.count))
