-- `privacy::phy::set_phy` meets its contract.
use Rattle.std.proofs.Common.{rules, refl, ◌≡◌}
use Rattle.octets.specs.Octets.{octet}
use Rattle.links.specs.Fields.{with_phys}
use Rattle.commands.specs.Privacy.{set_phy, any_sending, any_receiving, phy_picked}
use Rattle.commands.proofs.Giving.{answered_then, gives_changed}
use Rattle.privacy.proofs.Picking.{picked}
use Rattle.privacy.proofs.phy.set_phy.Goals as goal

pub returns : goal.returns
unfolding set_phy
returns c k held =
    let all = octet c.args.p.now 2 in
    let sends : c.pick_phy-tx.result ≡ phy_picked c.args.profile (any_sending all) (octet c.args.p.now 3) c.in-Some.c.tx_phy =
    picked _ _ _ _ _ c.sending.ensures c.pick_phy-tx.ensures in
    let receives : c.pick_phy-rx.result
    ≡ phy_picked c.args.profile (any_receiving all) (octet c.args.p.now 4) c.in-Some.c.rx_phy =
    picked _ _ _ _ _ c.receiving.ensures c.pick_phy-rx.ensures in
    gives_changed c.word_at-handle.result (with_phys c.pick_phy-tx.result c.pick_phy-rx.result) (λ c. refl) c.set_phys.ensures
    (answered_then c.followed_by_le.ensures c.status-status.ensures) (λ size pool. search rules) held
