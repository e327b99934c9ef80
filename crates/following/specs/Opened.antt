-- What is open in a clause as it is read, literal by literal.
use Rattle.std.specs.Prelude.{List, map}
use Rattle.bits.specs.Lists.{byte_at}
use Rattle.clauses.specs.declared.variables.Literal.{Literal}
use Rattle.clauses.specs.Variables.{literal_of}
use Rattle.following.specs.declared.open.Open.{Open}
use Rattle.following.specs.declared.open.Open.TheVariants.{Nothing}
use Rattle.following.specs.declared.open.Reading.{Reading}
use Rattle.following.specs.Values.{open_after}

-- after others
abbrev pub opened_after : Reading → Open → List Literal → Open
opened_after r o ls = open_after (byte_at r.values.now) o (map (literal_of r.task.size) ls)

abbrev pub opened : Reading → List Literal → Open
opened r ls = opened_after r Nothing ls
