-- What one node met, made and noted, the newest first, over all its starts.
use Rattle.std.specs.Prelude.{ℕ, List}
use Rattle.mega_base.specs.declared.names.Epoch.{Epoch}
use Rattle.mega_base.specs.declared.names.GroupId.{GroupId}
use Rattle.mega_base.specs.declared.names.OpId.{OpId}
use Rattle.mega_entry.specs.declared.content.Content.{Content}
use Rattle.mega_read.specs.of_wire.declared.message.Message.{Message}
use Rattle.mega_outcome.specs.declared.answer.Answer.{Answer}

pub data Met : Type 0 where
  Starts : (start : ℕ) → Met
  Crashes : Met
  Ticks : (now : ℕ) → Met
  Begins : (op : OpId) (text : List ℕ) → Met
  Takes : (message : Message) → Met
  Sends : (message : Message) → Met
  Unsends : (message : Message) → Met
  Grants : (node : ℕ) (epoch : Epoch) → Met
  Lapses : (node : ℕ) (epoch : Epoch) → Met
  Counts : (cell : ℕ) (epoch : Epoch) → Met
  Forgets : (cell : ℕ) (epoch : Epoch) → Met
  Serves : (epoch : Epoch) → Met
  Loses : (epoch : Epoch) → Met
  Validates : (group : GroupId) (position : ℕ) → Met
  Invalidates : (group : GroupId) (position : ℕ) → Met
  Decides : (group : GroupId) (position : ℕ) (entry : Content) → Met
  Applies : (group : GroupId) (position : ℕ) → Met
  Answers : (op : OpId) (answer : Answer) → Met
