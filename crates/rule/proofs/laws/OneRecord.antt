-- What no two records of an accepted plan share: an address, an SPsourceID, a near bridge with port, a VID, a bridge with I-SID and VID,
-- a VID with from and to.
-- Two records that share it are one. Assumes nothing.
use Rattle.std.specs.Prelude.{ℕ, ◌<◌, ◌≡◌, refl, length}
use Rattle.std.proofs.Common.{sym}
use Rattle.lists.specs.Members.{In}
use Rattle.lists.proofs.laws.ListNotions.{Distinct}
use Rattle.lists.proofs.laws.DistinctLaws.{every-two-one, every-two-distinct, place_in, distinct-places}
use Rattle.rule.specs.Records.{HalfLink, Vid, Member, Traffic, address}
use Rattle.rule.specs.Plan.{Plan, no_bridge, bridge_at}
use Rattle.rule.specs.PlanLaws.{BridgesApart, PortsApart, VidsApart, MembersApart, TrafficApart, PlanLaws}

module _ (p : Plan) (L : PlanLaws p) where
  pub listed-bridge : (u : ℕ) → u < length p.bridges → In (bridge_at p u) p.bridges
  listed-bridge u l = place_in p.bridges u no_bridge l

  -- Two numbers of bridges that are not apart are one.
  one_number : (u v : ℕ) → u < length p.bridges → v < length p.bridges
      → (BridgesApart (bridge_at p u) (bridge_at p v) → ⊥) → (BridgesApart (bridge_at p v) (bridge_at p u) → ⊥) → u ≡ v
  one_number u v h k f g = distinct-places p.bridges no_bridge
      (every-two-distinct BridgesApart p.bridges L.bridges.apart (λ b i A. A.sources refl)) u v h k
      (every-two-one BridgesApart p.bridges L.bridges.apart (bridge_at p u) (bridge_at p v) (listed-bridge u h) (listed-bridge v k) f g)

  pub one_address : (u v : ℕ) → u < length p.bridges → v < length p.bridges → address (bridge_at p u) ≡ address (bridge_at p v) → u ≡ v
  one_address u v h k e = one_number u v h k (λ A. A.addresses e) (λ A. A.addresses (sym e))

  pub one-source : (u v : ℕ) → u < length p.bridges → v < length p.bridges → (bridge_at p u).sp_source_id ≡ (bridge_at p v).sp_source_id → u ≡ v
  one-source u v h k e = one_number u v h k (λ A. A.sources e) (λ A. A.sources (sym e))

  pub distinct_half_links : Distinct p.half_links
  distinct_half_links = every-two-distinct PortsApart p.half_links L.half_links.apart (λ h k f. f refl refl)

  pub one_port : (h k : HalfLink) → In h p.half_links → In k p.half_links → h.near ≡ k.near → h.port ≡ k.port → h ≡ k
  one_port h k i j e f = every-two-one PortsApart p.half_links L.half_links.apart h k i j (λ A. A e f) (λ A. A (sym e) (sym f))

  pub distinct-vids : Distinct p.vids
  distinct-vids = every-two-distinct VidsApart p.vids L.vids.apart (λ v k f. f refl)

  pub one-vid : (v w : Vid) → In v p.vids → In w p.vids → v.vid ≡ w.vid → v ≡ w
  one-vid v w i j e = every-two-one VidsApart p.vids L.vids.apart v w i j (λ A. A e) (λ A. A (sym e))

  pub distinct-members : Distinct p.members
  distinct-members = every-two-distinct MembersApart p.members L.members.apart (λ m k f. f refl refl refl)

  pub one-member : (m k : Member) → In m p.members → In k p.members → m.bridge ≡ k.bridge → m.isid ≡ k.isid → m.vid ≡ k.vid → m ≡ k
  one-member m k i j e f g = every-two-one MembersApart p.members L.members.apart m k i j (λ A. A e f g) (λ A. A (sym e) (sym f) (sym g))

  pub distinct-traffic : Distinct p.traffic
  distinct-traffic = every-two-distinct TrafficApart p.traffic L.traffic.apart (λ t k f. f refl refl refl)

  pub one-traffic : (t k : Traffic) → In t p.traffic → In k p.traffic → t.vid ≡ k.vid → t.from ≡ k.from → t.to ≡ k.to → t ≡ k
  one-traffic t k i j e f g = every-two-one TrafficApart p.traffic L.traffic.apart t k i j (λ A. A e f g) (λ A. A (sym e) (sym f) (sym g))
