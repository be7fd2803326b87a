-- A page: lines of the record on their way to the sink, and the datagrams in them on their way to the link.
use Rattle.std.specs.Prelude.{◌≡◌, ℕ, List, ◌++◌, filter_map, map, Option, option_map, take}
use Rattle.std.specs.Io.KnownBytes.{Appends}
use Rattle.mega_link.specs.Datagrams.{Datagram}
use Rattle.mega_schema.specs.declared.schema.Schema.{Schema}
use Rattle.mega_transcript.specs.Recorded.{Line, put_in}
use Rattle.mega_page.specs.declared.page.Page.{Page}
use Rattle.mega_page.specs.Lines.{datagram_of, record_text}

-- these datagrams are those that the lines put
abbrev pub ArePut : List Line → List Datagram → Type 0
ArePut lines sends = map datagram_of sends ≡ filter_map put_in lines

pub record IsPage (schema : Schema) (page : Page) (lines : List Line) : Type 0 where
  pub text : page.text ≡ record_text schema lines
  pub sends : ArePut lines page.outbox

-- the record goes on by some lines: the sink holds their text behind what it held, and the link sent what they put
pub record GoesOn (schema : Schema) (held : Option (List ℕ)) (more_held : Option (List ℕ)) (sent more_sent : Option (List Datagram)) (more : List Line) : Type 0 where
  pub text : Appends held more_held (record_text schema more)
  pub sends : List Datagram
  pub are_put : ArePut more sends
  pub sent_are : more_sent ≡ option_map (λ all. all ++ sends) sent

-- it stopped on its way: some of the lines are held whole, and a front of what is behind them; what was sent, in order, stands in those that are held
pub record Stops (schema : Schema) (held : Option (List ℕ)) (more_held : Option (List ℕ)) (sent more_sent : Option (List Datagram)) (more : List Line) : Type 0 where
  pub whole : List Line
  pub rest : List Line
  pub lines : more ≡ whole ++ rest
  pub front : (n : ℕ) × Appends held more_held (record_text schema whole ++ take n (record_text schema rest))
  pub sends : List Datagram
  pub are_put : (n : ℕ) × (map datagram_of sends ≡ take n (filter_map put_in whole))
  pub sent_are : more_sent ≡ option_map (λ all. all ++ sends) sent
