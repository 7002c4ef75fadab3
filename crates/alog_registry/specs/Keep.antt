-- What a keeper of messages answers: true exactly where it kept the message.
use Rattle.std.specs.Prelude.{Bool, true, false}
use Rattle.alog_msg.specs.declared.message.Message.{Message}

abbrev pub KeptOr : {K : Type 0} → (K → Message → K → Type 0) → (K → K → Type 0) → Bool → K → Message → K → Type 0
KeptOr keeps passes true old m new = keeps old m new
KeptOr keeps passes false old m new = passes old new
