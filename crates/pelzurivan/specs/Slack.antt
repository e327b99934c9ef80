-- The slack, for C.
use Rattle.refusals.specs.Lines.{number_of, place_of}
use Rattle.settling.specs.Slack.{SlackAnswer}
use Rattle.pelzurivan.specs.declared.slack.SlackC.{SlackC}

-- the number, the first bad record, and the slack
abbrev pub slack_c : SlackAnswer → SlackC
slack_c a = record { number = number_of a.verdict; index = place_of a.verdict; slack = a.slack }
