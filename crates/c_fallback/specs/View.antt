-- What a struct of an answer to a fallback says, as the library's promise reads its own answer.
use Rattle.fallback.specs.Answer.{Left}
use Rattle.c_log.specs.declared.Logged.{Logged}

abbrev pub given_lowered : Logged → Left
given_lowered r = record { refusal = r.number; state = r.state }
