-- `service_reading::read::read_content` asks for the bridge and the VID before the services. Assumes nothing.
use Rattle.rule.specs.Refusals.{refused_by}
use Prim.Native.Nat.{ℕ}
use Rattle.rule.specs.Outcome.{Outcome}
use Rattle.rule.specs.Plan.{known_bridge, known_vid}
use Rattle.rule.specs.Words.{words_of}
use Rattle.service_reading.proofs.laws.NamedLaws.{advertiser-found, bridge_known, bridge-unknown}
use Rattle.service_reading.proofs.laws.ReadingLaws.{no_bridge_lem, no_vid_lem, both-known, services-few, service_words}
use Rattle.table.specs.Positions.{plan_at}
use Rattle.verdict.proofs.laws.CheckedLaws.{few-bridges}
use mathlib.Core.Path.{sym, ap, ◌∙◌}
use native.Mathlib.Omega.{arith}
use Rattle.service_reading.proofs.read.read_content.Goals as goal

pub returns-then-s-bridge : goal.returns-then-s-bridge
returns-then-s-bridge c =
    let (checked, _, _) = c.requires in
    let table = c.args.table.now in
    let s = c.args.s in
    let words = words_of table in
    let plan = plan_at words s in
    ap (λ (o : Outcome ℕ). (o, c.args.words.now)) (c.from.ensures ∙ ap refused_by c.of_call.ensures)
    ∙ no_bridge_lem plan (words_of c.args.content.now) c.args.words.now
    (ap (known_bridge plan)
    (sym
    (advertiser-found plan (words_of c.args.content.now) c.b_mac.ensures
    c.bridge_with-bridge.ensures))
    ∙ bridge-unknown checked _ c.if-s-bridge.true)

pub returns-then-not-has_vid : goal.returns-then-not-has_vid
returns-then-not-has_vid c =
    let (base-vid-is, _) = c.base_vid-vid.ensures in
    ap (λ (o : Outcome ℕ). (o, c.args.words.now)) (c.from-then-not-has_vid.ensures ∙ ap refused_by c.of_call-then-not-has_vid.ensures)
    ∙ no_vid_lem (plan_at (words_of c.args.table.now) c.args.s) (words_of c.args.content.now)
    c.args.words.now
    (ap (known_vid (plan_at (words_of c.args.table.now) c.args.s)) (sym base-vid-is)
    ∙ sym c.has_vid.ensures
    ∙ c.if-not-has_vid.true)

pub overflow_cast-bridge : goal.overflow_cast-bridge
overflow_cast-bridge c =
    let (checked, _, _) = c.requires in
    omega (arith, few-bridges checked, c.if-s-bridge.false)

pub read_services-requires : goal.read_services-requires
read_services-requires c =
    let (checked, _, content-length) = c.requires in
    let (_, base-vid-bound) = c.base_vid-vid.ensures in (
      services-few c.args.content.now content-length,
      omega (arith, few-bridges checked, c.if-s-bridge.false),
      omega (arith, base-vid-bound),
    )

pub returns : goal.returns
returns c =
    let (checked, _, _) = c.requires in
    let (base-vid-is, _) = c.base_vid-vid.ensures in
    let content = c.args.content.now in
    let table = c.args.table.now in
    let s = c.args.s in
    let words = words_of table in
    let plan = plan_at words s in
    let the-words = words_of content in
    both-known plan the-words c.args.words.now
    (ap (known_bridge plan) (sym (advertiser-found plan the-words c.b_mac.ensures c.bridge_with-bridge.ensures))
    ∙ bridge_known checked _ c.if-s-bridge.false)
    (ap (known_vid plan) (sym base-vid-is) ∙ sym c.has_vid.ensures ∙ c.if-not-has_vid.false) _ _ _ _
    (advertiser-found plan the-words c.b_mac.ensures c.bridge_with-bridge.ensures) base-vid-is
    (service_words content) c.read_services.ensures
