-- `load_lines::pair_lines::write_lines_from` writes the lines of one bridge by the ports of its hops. Assumes nothing.
use Rattle.load_lines.proofs.laws.PairTextLaws.{lines_from}
use Rattle.load_lines.proofs.pair_lines.write_lines_from.Goals as goal

pub returns : goal.returns
returns c =
    let (is-network, _, u-bound, _) = c.requires in
    let (written, write-lines-of-bound) = c.write_lines_of.ensures in
    lines_from is-network u-bound c.hop_ports.ensures c.bridges.ensures written write-lines-of-bound
