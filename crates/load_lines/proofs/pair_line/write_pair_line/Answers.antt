-- `load_lines::pair_line::write_pair_line` writes the line of two bridges, or nothing. Assumes nothing.
use native.Mathlib.Omega.{arith}
use Rattle.load_lines.proofs.laws.PairTextLaws.{not_lower, no_port_lem, has_line}
use Rattle.load_lines.proofs.pair_line.write_pair_line.Goals as goal

pub returns-then-v-u : goal.returns-then-v-u
returns-then-v-u c = (not_lower c.args.hops.now c.args.loads.now _ _ c.if-v-u.true _ _, omega arith)

pub returns-then-hops-v-eq0 : goal.returns-then-hops-v-eq0
returns-then-hops-v-eq0 c = (no_port_lem c.args.hops.now c.args.loads.now _ _ c.if-hops-v-eq0.true _ _, omega arith)

pub returns : goal.returns
returns c =
    let (place_is, _) = c.pair_place.ensures in
    let (written, write-load-bound) = c.write_load.ensures in (
      has_line c.args.hops.now c.args.loads.now _ _ c.if-v-u.false c.if-hops-v-eq0.false _ place_is written,
      write-load-bound,
    )
