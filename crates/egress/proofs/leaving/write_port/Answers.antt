-- `egress::leaving::write_port` writes the port by the next hop. Assumes nothing.
use Rattle.egress.proofs.laws.PassLaws.{port-written}
use Rattle.egress.proofs.leaving.write_port.Goals as goal

pub returns : goal.returns
returns c =
    let args = c.args in
    port-written args.labels.now args.hops.now args.b args.row.now args.d c.next_number-next.ensures
    c.port_through.ensures
