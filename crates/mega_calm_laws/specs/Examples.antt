-- A current read and a transaction in a cluster of three nodes that has just opened.
use Rattle.std.specs.Prelude.{[], ◌∷◌, map}
use Rattle.mega_outcome.specs.declared.request.Mode.TheVariants.{Current}
use Rattle.mega_outcome.specs.declared.request.ReadRequest.{ReadRequest}
use Rattle.mega_outcome.specs.declared.transaction.Change.TheVariants.{Put}
use Rattle.mega_outcome.specs.declared.transaction.Transaction.{Transaction}
use Rattle.mega_leased_laws.specs.of_run_laws.of_tape_laws.of_promises.of_rules.Examples.{cluster, group, user}
use Rattle.mega_leased_laws.specs.of_run_laws.of_tape_laws.of_promises.Runs.{Standing, by_fuse}
use Rattle.mega_leased_laws.specs.of_run_laws.of_tape_laws.of_promises.Worked.{crash, drain, happens, put_at, start, user_101}
use Rattle.mega_calm_laws.specs.Next.{run_of}

-- the cluster as it has opened, with no handlers
abbrev pub opened : Standing
opened = run_of cluster by_fuse [] []

-- all rows of a group are read
abbrev pub whole_read : ReadRequest
whole_read = record { mode = Current; group = group; rows = [] }

-- one user is put
abbrev pub put_user : Transaction
put_user = record { group = group; checks = []; reads = []; writes = Put 1 user ∷ []; sends = [] }

-- node 1 puts the user, and every message is delivered; then node 2 crashes and is started again, and every message is delivered
abbrev pub started_again : Standing
started_again = run_of cluster by_fuse [] (map happens (put_at 1 ∷ drain ∷ crash 2 ∷ start 2 ∷ drain ∷ []))

-- that user is read
abbrev pub user_read : ReadRequest
user_read = record { mode = Current; group = group; rows = user_101 ∷ [] }
