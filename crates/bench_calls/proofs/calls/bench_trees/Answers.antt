-- `bench_calls::calls::bench_trees` examines a table and makes trees of it. Assumes nothing.
use native.Mathlib.Omega.{arith}
use Rattle.key_index.proofs.laws.IndexLaws.{no_keys_yet}
use Rattle.rule.specs.Words.{words_of}
use Rattle.rule.specs.Records.{bridge_of}
use Rattle.table.proofs.laws.PositionLaws.{how_many}
use Rattle.bench_calls.proofs.laws.BenchCallLaws.{too_many, trees_made, trees_refused}
use Rattle.bench_calls.proofs.calls.bench_trees.Goals as goal

pub examine-examined-requires : goal.examine-examined-requires
examine-examined-requires c = no_keys_yet

pub returns-then-s-count : goal.returns-then-s-count
returns-then-s-count c =
    let examine-is = c.examine-examined.ensures.result_value in
    let many = how_many bridge_of 3 0 (words_of c.args.table.now) c.in-Ok.s.bridges in
    too_many c.args.table.now c.examine-examined.result examine-is c.args.count _
    c.in-Ok.is (omega (arith, c.if-s-count.true, many))

pub trees_of_table-requires : goal.trees_of_table-requires
trees_of_table-requires c =
    let the-passed = c.examine-examined.ensures.passed in
    let passed = the-passed _ c.in-Ok.is in
    (passed.0, omega (arith, c.if-s-count.false), passed.1)

pub returns-else-s-count : goal.returns-else-s-count
returns-else-s-count c =
    let examine-is = c.examine-examined.ensures.result_value in
    let many = how_many bridge_of 3 0 (words_of c.args.table.now) c.in-Ok.s.bridges in
    trees_made c.args.table.now c.examine-examined.result examine-is c.args.count _
    c.in-Ok.is (omega (arith, c.if-s-count.false, many)) c.trees_of_table.ensures

pub returns-in-Err : goal.returns-in-Err
returns-in-Err c =
    let examine-is = c.examine-examined.ensures.result_value in
    trees_refused c.args.table.now c.examine-examined.result examine-is c.args.count _
    c.in-Err.is
