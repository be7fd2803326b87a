-- The lines of a schedule that is made from a number: each an object's compact text, its keys in order.
use Rattle.std.specs.Prelude.{ℕ, List, ◌++◌, codes, decimal}

abbrev pub tick_line : ℕ → ℕ → List ℕ
tick_line node now = codes "{\"do\":\"tick\",\"node\":" ++ (decimal node ++ (codes ",\"now\":" ++ (decimal now ++ codes "}")))

abbrev pub drain_line : List ℕ
drain_line = codes "{\"do\":\"drain\",\"most\":2000}"

abbrev pub crash_line : ℕ → List ℕ
crash_line node = codes "{\"do\":\"crash\",\"node\":" ++ (decimal node ++ codes "}")

abbrev pub start_line : ℕ → List ℕ
start_line node = codes "{\"do\":\"start\",\"node\":" ++ (decimal node ++ codes "}")

-- a transaction that puts an account's balance
abbrev pub put_line : ℕ → ℕ → ℕ → List ℕ
put_line node account balance =
    codes "{\"checks\":[],\"do\":\"txn\",\"group\":[\"Account\",[" ++ (decimal account ++ (codes "]],\"node\":" ++ (decimal node ++ (codes ",\"reads\":[],\"sends\":[],\"writes\":[{\"put\":\"Account\",\"row\":{\"balance\":"
    ++ (decimal balance ++ (codes ",\"id\":" ++ (decimal account ++ codes "}}]}")))))))

-- a current read of all rows of an account's group
abbrev pub current_line : ℕ → ℕ → List ℕ
current_line node account = codes "{\"do\":\"read\",\"group\":[\"Account\",[" ++ (decimal account ++ (codes "]],\"mode\":\"current\",\"node\":" ++ (decimal node ++ codes ",\"rows\":[]}")))

-- the same as a snapshot
abbrev pub snapshot_line : ℕ → ℕ → List ℕ
snapshot_line node account = codes "{\"do\":\"read\",\"group\":[\"Account\",[" ++ (decimal account ++ (codes "]],\"mode\":\"snapshot\",\"node\":" ++ (decimal node ++ codes ",\"rows\":[]}")))
