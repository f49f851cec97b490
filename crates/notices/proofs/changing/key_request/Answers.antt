-- `notices::changing::key_request` meets its contract.
use Rattle.std.proofs.Common.{rules, ◌∙◌, length-append}
use Rattle.octets.proofs.Writing.{put_then, put_whole}
use Rattle.notices.proofs.changing.key_request.Goals as goal

pub returns : goal.returns
returns c =
    put_whole (put_then c.put_two-front.ensures c.put.ensures) (simp length-append (search rules))
    ∙ rw (c.to_le_bytes.ensures, c.to_le_bytes-2.ensures)
