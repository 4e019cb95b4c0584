-- Bytes that no call reads (specs/Unread.antt), proved: on two images that agree on the named bytes every call answers the same.
pub mod Metadata
pub mod Open
pub mod Write
pub mod Checkpoint
pub mod Reads
pub mod Discard
use Rattle.model.specs.Unread.{NeverRead}
use Rattle.model.proofs.Laws.Unread.Open.{open_unread}
use Rattle.model.proofs.Laws.Unread.Write.{write_unread}
use Rattle.model.proofs.Laws.Unread.Discard.{discard_unread}
use Rattle.model.proofs.Laws.Unread.Checkpoint.{checkpoint_unread}
use Rattle.model.proofs.Laws.Unread.Reads.{read_status_unread, working_part_unread, checkpoint_part_unread, working_block_unread, checkpoint_block_unread, same_unread}

pub never_read : NeverRead
never_read = record {
  alone = λ a. record {
    opening = open_unread a;
    write = write_unread a;
    discard = discard_unread a;
    checkpoint = checkpoint_unread a;
    read = read_status_unread a;
    working_found = working_part_unread a;
    checkpoint_found = checkpoint_part_unread a;
    working_bytes = working_block_unread a;
    checkpoint_bytes = checkpoint_block_unread a;
  };
  compared = same_unread;
}
