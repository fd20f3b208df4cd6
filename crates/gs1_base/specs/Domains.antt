-- Domains of links: host names, with a port or without, and the path at which links begin.
use Rattle.std.specs.Prelude.{ℕ, ◌+◌, ◌-◌, ◌*◌, Bool, ◌==◌, ◌&&◌, ◌||◌, not, List, [], ◌∷◌, length}
use Rattle.std.specs.Prelude.{drop}
use Rattle.std.specs.List.{position_or_len, before_first, after_first, list_all, slice_split}
use Rattle.gs1_base.specs.Characters.{is_within, is_decimal_digit}
use Rattle.gs1_base.specs.Percent.{is_unreserved}

abbrev pub is_host_character : ℕ → Bool
is_host_character c =
    is_decimal_digit c || is_within 0x41 0x5a c || is_within 0x61 0x7a c || (c == 0x2d)
    || (c == 0x2e)

abbrev pub is_colon : ℕ → Bool
is_colon c = c == 0x3a

abbrev pub is_port_character : ℕ → Bool
is_port_character c = is_host_character c || is_colon c

abbrev pub is_dot : ℕ → Bool
is_dot c = c == 0x2e

-- A label has 1 to 63 characters (RFC 1035, section 2.3.4).
abbrev pub is_label : List ℕ → Bool
is_label label = is_within 1 63 (length label)

-- Labels, with a dot between any two of them.
abbrev pub are_labels : List ℕ → Bool
are_labels host = list_all is_label (slice_split is_dot host)

-- The number that digits write behind those of `number`.
abbrev pub number_after : ℕ → List ℕ → ℕ
number_after number [] = number
number_after number (c ∷ digits) = number_after (10 * number + (c - 0x30)) digits

-- The digits of a number from 1 to 65535.
abbrev pub is_port : List ℕ → Bool
is_port port = list_all is_decimal_digit port && is_within 1 65535 (number_after 0 port)

-- A host name, and after the first colon a port, if there is one.
unfoldable pub is_host : List ℕ → Bool
is_host host =
    list_all is_port_character host && are_labels (before_first is_colon host)
    && ((position_or_len is_colon host == length host) || is_port (after_first is_colon host))

abbrev pub is_slash : ℕ → Bool
is_slash c = c == 0x2f

-- A character of a domain: one that is never escaped, a colon or a slash.
abbrev pub is_domain_character : ℕ → Bool
is_domain_character c = is_unreserved c || is_colon c || is_slash c

-- A segment of a path has a character that is no dot: browsers leave out `.` and `..` (RFC 3986,
-- section 5.2.4).
abbrev pub is_segment : List ℕ → Bool
is_segment segment = not (list_all is_dot segment)

-- A host, and after each slash a segment. Example: `example.com:8080/shop/a~b`.
unfoldable pub is_domain : List ℕ → Bool
is_domain domain =
    list_all is_domain_character domain && is_host (before_first is_slash domain)
    && list_all is_segment (drop 1 (slice_split is_slash domain))
