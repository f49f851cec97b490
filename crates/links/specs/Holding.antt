-- When the links hold together: document 01's question 3 about connections, waiting packets and packets in flight, as a test
-- that computes, and the same as facts. With one queue for all links it also asks that each waiting packet is a link's.
use Rattle.std.specs.Prelude.{◌≡◌, ℕ, ◌+◌, ◌≤◌, List, Bool, true, ◌&&◌, leb, ltb}
use Rattle.lists.specs.Lists.{all, distinct}
use Rattle.links.specs.declared.Connection.{Connection}
use Rattle.links.specs.declared.Waiting.{Waiting}
use Rattle.links.specs.declared.Links.{Links}
use Rattle.links.specs.Links.{opened, waiting_of, has}

abbrev pub handle_of : Connection → ℕ
handle_of c = c.handle

abbrev pub place_of : Waiting → ℕ
place_of w = w.place

-- a waiting packet lies in one of the places and has 5 to `size` octets, size being acl_len + 5
abbrev pub fits_in : ℕ → ℕ → Waiting → Bool
fits_in places size w = ltb w.place places && (leb 5 w.len && leb w.len size)

-- it waits in one of the links
abbrev pub waits_in_link : List Connection → Waiting → Bool
waits_in_link cs w = has w.handle cs

unfoldable pub links_hold : Links → ℕ → ℕ → Bool
links_hold s places size =
    leb s.count 16
    && (leb s.waiting_count 32
    && (leb (s.waiting_count + s.in_flight) places
    && (distinct handle_of (opened s)
    && (distinct place_of (waiting_of s)
    && (all (fits_in places size) (waiting_of s)
    && all (waits_in_link (opened s)) (waiting_of s))))))

pub record LinksHold (s : Links) (places size : ℕ) : Type 0 where
  pub few_links : s.count ≤ 16
  pub few_waiting : s.waiting_count ≤ 32
  pub room : s.waiting_count + s.in_flight ≤ places
  pub handles : distinct handle_of (opened s) ≡ true
  pub owners : distinct place_of (waiting_of s) ≡ true
  pub fit : all (fits_in places size) (waiting_of s) ≡ true
  pub linked : all (waits_in_link (opened s)) (waiting_of s) ≡ true
