-- `transmit::enqueue` meets its contract, whichever free place it is given.
use Rattle.std.proofs.Common.{◌≡◌, length, arith, rules}
use lib.Seq.{length-take-le}
use Rattle.lists.proofs.Copying.{length_of_map}
use Rattle.transmit.proofs.Fitting.{all_below}
use Rattle.transmit.proofs.Queueing.{queued}
use Rattle.transmit.proofs.enqueue.Goals as goal

pub free_place-place-requires : goal.free_place-place-requires
free_place-place-requires c =
    let s = c.args.links in
    let fits = c.requires.fits in
    let long : length s.waiting ≡ 32 = search (rules, length_of_map, c.well_formed) in
    let n = length-take-le s.waiting_count s.waiting (omega (arith, fits.held.few_waiting)) in
    rw c.waiting.ensures
    (record {
      few = omega (arith, fits.held.few_waiting);
      placed = all_below c.args.places.count c.args.places.size _ fits.most fits.held.fit;
    })

pub returns : goal.returns
returns c =
    let s = c.args.links in
    let long : length s.waiting ≡ 32 = search (rules, length_of_map, c.well_formed) in
    let n = length-take-le s.waiting_count s.waiting (omega (arith, c.requires.fits.held.few_waiting)) in
    queued c.requires (rw (c.waiting.ensures, n) at c.free_place-place.ensures) long c.put.ensures
