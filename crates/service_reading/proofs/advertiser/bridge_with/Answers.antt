-- `service_reading::advertiser::bridge_with` looks at the addresses of the bridges. Assumes nothing.
use native.Mathlib.Omega.{arith}
use Rattle.rule.specs.Words.{words_of}
use Rattle.service_reading.proofs.laws.NamedLaws.{bridge-starts, bridge-on, bridge-found, bridge_missing}
use Rattle.service_reading.proofs.advertiser.bridge_with.Goals as goal

pub loop-d-init : goal.loop-d-init
loop-d-init c = bridge-starts (words_of c.args.table.now) c.args.s c.args.address

pub address_of-requires : goal.address_of-requires
address_of-requires c = (c.requires, c.loop-d-test.true)

pub returns-then-address_of-address : goal.returns-then-address_of-address
returns-then-address_of-address c =
    bridge-found (words_of c.args.table.now) c.args.s c.args.address c.loop-d.invariant
    c.loop-d-test.true c.address_of.ensures c.if-address_of-address.true

pub loop-d-preserved : goal.loop-d-preserved
loop-d-preserved c =
    bridge-on (words_of c.args.table.now) c.args.s c.args.address c.loop-d.invariant c.loop-d-test.true
    c.address_of.ensures c.if-address_of-address.false

pub returns : goal.returns
returns c =
    let missing = bridge_missing (words_of c.args.table.now) c.args.s c.args.address c.loop-d.invariant c.loop-d-test.false in
    omega (arith, missing, c.loop-d.auto.d-end, c.loop-d-test.false)
