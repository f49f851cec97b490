-- `carry_out` of Masks meets its contract: success and the masks that the command's definition sets.
use Rattle.std.proofs.Common.{rules}
use Rattle.commands.specs.Table.{find}
use Rattle.commands.specs.Known.{set_event_mask, set_event_mask_page2}
use Rattle.commands.specs.Air.{set_le_event_mask}
use Rattle.dispatch.proofs.setting.MasksCommandPart.carry_out.Goals as goal

pub returns : goal.returns
unfolding find set_event_mask set_event_mask_page2 set_le_event_mask
returns c = search rules
