use Rattle.std.proofs.Common.{refl}
use Rattle.alog_policy.proofs.BookSteps.{starts}
use Rattle.alog_policy.proofs.loss_book.LossBook.new.Goals as goal

pub of_words-requires : goal.of_words-requires
of_words-requires c = starts _ (record { count = refl; overrun = refl; discarded = refl })
