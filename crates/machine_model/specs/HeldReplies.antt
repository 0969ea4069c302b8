-- The reply that stands in memory.
use Rattle.std.specs.Prelude.{[], Some, None}
use Rattle.machine_model.specs.CallReplies.{CallReply}
use Rattle.machine_model.specs.declared.reply.Held.{Held}
use Rattle.machine_model.specs.declared.reply.Held.TheVariants.{Plain, Storing, Entering}

abbrev pub reply_of : Held → CallReply
reply_of (Plain a0 at) = record { a0 = a0; at = at; bytes = []; image = None }
reply_of (Storing stored) = record { a0 = stored.value.a0; at = stored.value.at; bytes = stored.value.bytes; image = None }
reply_of (Entering image) = record { a0 = 0; at = 0; bytes = []; image = Some image.value }
