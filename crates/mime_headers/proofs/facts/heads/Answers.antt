-- Lines, heads and fields for which each definition is true, and others for which it is false, so that a page that says less or more
-- doesn't check.
use Rattle.mime_headers.proofs.Common.{Bool, Finding, List, None, Some, [], codes, continued, false, field_of, findings_in, first_seen}
use Rattle.mime_headers.proofs.Common.{flat_map, is_end, is_field, is_start, length, lines_of, map, mark_before, refl, seen, signed}
use Rattle.mime_headers.proofs.Common.{text_with, true, values_of, without_escapes, without_returns, ℕ, ◌++◌, ◌∷◌, ◌≡◌}
use Rattle.mime_headers.specs.Field.{Field, next_value}
use Rattle.mime_headers.specs.Head.{head, head_of}
use Rattle.mime_headers.specs.Line.{escape_len, indent_of, is_folded}
use Rattle.mime_headers.specs.Start.{is_target, kind_of}
use Rattle.mime_headers.specs.Field.{whole_value}
use Rattle.mime_headers.specs.Head.{stray, mark_of_fields}
use Rattle.mime_headers.specs.Line.{plain_lines, begins_sign}
use Rattle.mime_headers.specs.Start.{is_request_line, is_version}
use Rattle.mime_headers.specs.Report.{findings_read, is_cut, lines_read}
use Rattle.mime_headers.specs.declared.field.Name.{Name}
use Rattle.mime_headers.specs.declared.start.Kind.{Kind}
use Rattle.std.proofs.Common.{filter}
use Rattle.mime.specs.Bytes.{is_token_byte}
use Rattle.mime_headers.specs.declared.field.Name.TheVariants.{ContentType, Accept}

-- ---- lines

-- bytes after an escape character
abbrev esc : List ℕ → List ℕ
esc bytes = 27 ∷ bytes

-- Colors and cleared lines are escapes. Other controls, one that isn't closed, and one without its escape character aren't. They are sought
-- once, from the left.
escapes : (map escape_len (esc (codes "[m") ∷ esc (codes "[01;31ma") ∷ esc (codes "[K") ∷ []) ≡ 3 ∷ 8 ∷ 3 ∷ [])
    × (map escape_len (esc (codes "[2J") ∷ esc (codes "m") ∷ codes "[1m" ∷ esc (codes "[1") ∷ esc (codes "[1:2m") ∷ [])
    ≡ 0 ∷ 0 ∷ 0 ∷ 0 ∷ 0 ∷ [])
    × (without_escapes (esc (codes "[01;31m") ++ (esc (codes "[KAccept") ++ (esc (codes "[m") ++ (esc (codes "[K: a/b") ++ esc (codes
    "[m")))))
    ≡ codes "Accept: a/b")
    × (without_escapes (esc (esc (codes "[m[ma"))) ≡ esc (codes "[ma"))
escapes = (refl, refl, refl, refl)

-- A line loses all carriage returns at its end, and no others. An input loses its escapes, then a byte order mark at its start and, if it
-- is cut off, its last line. An input of one byte more than 1,048,576 is cut off.
lines : (map without_returns (codes "a\r\r" ∷ codes "\ra\r b" ∷ codes "\r" ∷ []) ≡ codes "a" ∷ codes "\ra\r b" ∷ [] ∷ [])
    × (plain_lines false (239 ∷ 187 ∷ 191 ∷ codes "a\r\nb") ≡ codes "a" ∷ codes "b" ∷ [])
    × (plain_lines false (239 ∷ 187 ∷ codes "a\n") ≡ (239 ∷ 187 ∷ codes "a") ∷ [])
    × (plain_lines false (codes "a\n" ++ (239 ∷ 187 ∷ 191 ∷ [])) ≡ codes "a" ∷ (239 ∷ 187 ∷ 191 ∷ []) ∷ [])
    × (map (plain_lines true) (codes "a\nb\n" ∷ codes "a\nb" ∷ []) ≡ (codes "a" ∷ []) ∷ (codes "a" ∷ []) ∷ [])
    × (lines_read (esc (codes "[m") ++ (239 ∷ 187 ∷ 191 ∷ codes "a\r" ++ esc (codes "[0m\r\nb"))) ≡ codes "a" ∷ codes "b" ∷ [])
    × ((bytes : List ℕ) → (length bytes ≡ 1048576 → is_cut bytes ≡ false) × (length bytes ≡ 1048577 → is_cut bytes ≡ true))
lines = (refl, refl, refl, refl, refl, refl, λ bytes. (λ len. rw len refl, λ len. rw len refl))

-- A line's sign is its first one before a space or at the end; what precedes it doesn't matter.
signs : (map signed (codes "> a" ∷ codes "12:09:53.3 [0-0] > a < b" ∷ codes "->a< b" ∷ codes "a<" ∷ codes "< " ∷ [])
    ≡ Some (codes ">", codes "a") ∷ Some (codes ">", codes "a < b") ∷ Some (codes "<", codes "b") ∷ Some (codes "<", [])
    ∷ Some (codes "<", []) ∷ [])
    × (map signed ([] ∷ codes "a>b" ∷ codes ">\ta" ∷ codes "* a" ∷ []) ≡ None ∷ None ∷ None ∷ None ∷ [])
unfolding begins_sign
signs = (refl, refl)

-- The white space at a line's start is its indentation, which a carriage return isn't. A line has a text after its own indentation, part of
-- it, or its own sign.
texts : (map indent_of (codes "\t a b" ∷ codes "a " ∷ codes "\r a" ∷ codes " " ∷ []) ≡ codes "\t " ∷ [] ∷ [] ∷ codes " " ∷ [])
    × (map (text_with (codes " ")) (codes "  a" ∷ codes " " ∷ codes "\ta" ∷ codes "a" ∷ [])
    ≡ Some (codes " a") ∷ Some [] ∷ None ∷ None ∷ [])
    × (map (text_with []) (codes " a" ∷ [] ∷ []) ≡ Some (codes " a") ∷ Some [] ∷ [])
    × (map (text_with (codes "<")) (codes "x< a" ∷ codes "<" ∷ codes "> a < b" ∷ codes "<a" ∷ [])
    ≡ Some (codes "a") ∷ Some [] ∷ None ∷ None ∷ [])
unfolding begins_sign
texts = (refl, refl, refl, refl)

-- A wanted text follows an indentation, which counts first, or a sign. If a sign is needed, an indentation isn't enough.
marks : (map (mark_before is_field false) (codes " Accept: a" ∷ codes "Accept: a > Accept: b" ∷ codes "x> Accept: a"
    ∷ codes "x Accept: a" ∷ [])
    ≡ Some (codes " ") ∷ Some [] ∷ Some (codes ">") ∷ None ∷ [])
    × (map (mark_before is_field true) (codes " Accept: a" ∷ codes "Accept: a > Accept: b" ∷ codes "x> Accept: a" ∷ [])
    ≡ None ∷ None ∷ Some (codes ">") ∷ [])
unfolding begins_sign
marks = (refl, refl)

-- ---- start lines

-- A version has one digit, or two with a dot between.
versions : filter is_version (lines_of (codes
    "HTTP/1.1\nHTTP/2\nhttp/2\nHTTP/a\nHTTP/1.\nHTTP/1.a\nHTTP/1 1\nHTTP/10\nHTTP/1.11\nHTTP/\nHTTP_2"))
    ≡ lines_of (codes "HTTP/1.1\nHTTP/2")
unfolding is_version
versions = refl

-- A status line ends after three digits, or goes on with a space.
status_lines : filter is_start
    (lines_of (codes "HTTP/1.1 200 O\nHTTP/2 200 \nHTTP/2 200\nHTTP/2 is.\nHTTP/2 2000\nHTTP/2 20a\nHTTP/2  200"))
    ≡ lines_of (codes "HTTP/1.1 200 O\nHTTP/2 200 \nHTTP/2 200")
unfolding is_request_line is_token_byte is_version
status_lines = refl

-- A request-target is a path, `*`, a URI, or a host and a port.
targets : (filter is_target (lines_of (codes "/\n/a?b:c\n*\nhttp://a/b\na:80\n[::1]:443"))
    ≡ lines_of (codes "/\n/a?b:c\n*\nhttp://a/b\na:80\n[::1]:443"))
    × (filter is_target ([] ∷ lines_of (codes "using\nVersion:\nover\n:80\n://a\n**\na:8b\nhttp:/a\na/b")) ≡ [])
targets = (refl, refl)

-- A request line has a token, a request-target and a version, and one space between two.
request_lines : (filter is_request_line
    (lines_of (codes "GET / HTTP/2\nM-SEARCH * HTTP/1.1\nCONNECT a:443 HTTP/1.1\nGET http://a/ HTTP/1.0"))
    ≡ lines_of (codes "GET / HTTP/2\nM-SEARCH * HTTP/1.1\nCONNECT a:443 HTTP/1.1\nGET http://a/ HTTP/1.0"))
    × (filter is_request_line (lines_of (codes
    "GET  / HTTP/2\n / HTTP/2\nG:T / HTTP/2\nGET / HTTP/2 \nGET /\nGET / b HTTP/2\nGET / http/1.1")) ≡ [])
    × (filter is_start (lines_of (codes
    "* using HTTP/2\nProtocol Version: HTTP/2\ncomes over HTTP/1.1\n GET / HTTP/2\na: b\nHTTP/2 200\nGET / HTTP/2"))
    ≡ lines_of (codes "HTTP/2 200\nGET / HTTP/2"))
unfolding is_request_line is_token_byte is_version
request_lines = (refl, refl, refl)

-- A response is interim if its code begins with 1. A head of fields alone has no start line.
kinds : (map kind_of (lines_of (codes "HTTP/1.1 100 Continue\nHTTP/2 200 1\nGET / HTTP/2\nHTTP/1.1 \n HTTP/2 200"))
    ≡ Some Kind.Interim ∷ Some Kind.Final ∷ Some Kind.Request ∷ None ∷ None ∷ [])
    × (map (λ lines. (head_of [] lines lines).kind) ([] ∷ (codes "Host: a" ∷ []) ∷ (codes "HTTP/2 200" ∷ []) ∷ [])
    ≡ Kind.Fields ∷ Kind.Fields ∷ Kind.Final ∷ [])
    × (map (λ mark. (head_of mark [] []).kind) (codes "<" ∷ codes ">" ∷ codes " " ∷ []) ≡ Kind.Final ∷ Kind.Fields ∷ Kind.Fields ∷ [])
unfolding is_request_line is_token_byte is_version
kinds = (refl, refl, refl)

-- ---- fields

-- a field
abbrev field : Name → List ℕ → Bool → Field
field name value is_spaced = record { name = name; value = value; is_spaced = is_spaced }

-- One of the two fields begins with its name, in any case, perhaps white space, and a colon.
fields : (map field_of (lines_of (codes "ACCEPT:\ncontent-type \t: a/b ; c\t\nAccept:a:b"))
    ≡ Some (field Accept [] false) ∷ Some (field ContentType (codes "a/b ; c") true) ∷ Some (field Accept (codes "a:b") false) ∷ [])
    × (filter is_field (lines_of (codes "X-Accept: a\nAccept\nAccepted: a\n Accept: a\nAccept x: a\nHost: a\n: a\n> Accept: a")) ≡ [])
fields = (refl, refl)

-- A line that begins with white space goes on with the one before it, whose value it joins.
continuations : (filter is_folded (codes "\ta" ∷ codes " " ∷ codes "a b" ∷ [] ∷ (12 ∷ codes "a") ∷ codes "\ra" ∷ [])
    ≡ codes "\ta" ∷ codes " " ∷ [])
    × (map continued (lines_of (codes "  b\t\n\tc d\ne\n f") ∷ lines_of (codes " \n a") ∷ lines_of (codes "a\n b") ∷ [])
    ≡ codes " b c d" ∷ codes "  a" ∷ [] ∷ [])
continuations = (refl, refl)

-- Browsers copy a field's value below its name. That isn't a line that a token and a colon begin, or a colon.
values_below : (map next_value (lines_of (codes "a/b; c=\"d:e\" \n f\ng") ∷ lines_of (codes "*/*") ∷ [])
    ≡ codes "a/b; c=\"d:e\" f" ∷ codes "*/*" ∷ [])
    × (map next_value (lines_of (codes "Host: a") ∷ lines_of (codes ":status: 200") ∷ [] ∷ []) ≡ [] ∷ [] ∷ [] ∷ [])
    × (map (whole_value (lines_of (codes "a/b"))) ([] ∷ codes "c" ∷ []) ≡ codes "a/b" ∷ codes "c" ∷ [])
    × (whole_value (lines_of (codes " \na/b")) [] ≡ codes " ")
unfolding is_token_byte
values_below = (refl, refl, refl, refl)

-- The values of a field are in order, each with the lines that continue it, without those that have white space before the colon.
values : (values_of Accept
    (lines_of (codes " x\nAccept: a/b, \n  c/d\nHost: e\n f\naccept:g/h\nAccept : i\nContent-Type: k\nAccept:"))
    ≡ codes "a/b, c/d" ∷ codes "g/h" ∷ [] ∷ [])
    × (map (λ name. values_of name (lines_of (codes "content-type:\na/b\naccept:\nhost: c"))) (ContentType ∷ Accept ∷ [])
    ≡ (codes "a/b" ∷ []) ∷ ([] ∷ []) ∷ [])
unfolding is_token_byte
values = (refl, refl)

-- One of the two fields is in plain sight at a line's start, and behind a byte that isn't of the same name, or `[`.
plain_sight : (map seen (lines_of (codes
    "accept : a\n-Accept: a\n\"Content-Type: a; Accept: b\n+Accept: a\n\\r\\ncontent-type: a\n]accept: a"))
    ≡ Some Accept ∷ Some Accept ∷ Some ContentType ∷ Some Accept ∷ Some ContentType ∷ Some Accept ∷ [])
    × (map seen ([] ∷ lines_of (codes
    "* [HTTP/2] [1] [accept: */*]\nX-Accept: a\n--accept: a\n_accept: a\n accept a\nAccept-Ranges: a"))
    ≡ None ∷ None ∷ None ∷ None ∷ None ∷ None ∷ None ∷ [])
    × (first_seen 1 (lines_of (codes "a\n[accept: b]\n> Accept: c\nContent-Type: d")) ≡ Some (3, Accept))
    × (first_seen 1 (lines_of (codes "a\nb")) ≡ None)
plain_sight = (refl, refl, refl, refl)

-- ---- heads

-- a finding: a letter for a head's kind and a bar after each of its lines, or a line in no head after `! `
abbrev finding_text : Finding → List ℕ
finding_text (head it) = letter it.kind ++ (flat_map (λ line. line ++ codes "|") it.texts ++ codes "\n")
  where
    letter : Kind → List ℕ
    letter Kind.Fields = codes "f "
    letter Kind.Request = codes "q "
    letter Kind.Interim = codes "i "
    letter Kind.Final = codes "r "
finding_text (stray line) = codes "! " ++ (line ++ codes "\n")

abbrev found : Bool → List ℕ → List ℕ
found cut text = flat_map finding_text (findings_in cut (plain_lines cut text))

-- A line ends a head with a sign if only its sign is in it, and any other head if it isn't indented so, or has nothing more. A line of
-- nothing but an indentation and a sign parts blocks.
ends : (filter (is_end (Some (codes ">"))) (lines_of (codes "> a\n>\n> \nx>\n< \n<\na\n")) ≡ lines_of (codes ">\n> \nx>"))
    × (filter (is_end (Some [])) (codes "a" ∷ [] ∷ codes " a" ∷ codes " " ∷ []) ≡ [] ∷ [])
    × (filter (is_end (Some (codes "\t"))) (codes "\ta" ∷ [] ∷ codes "\t" ∷ codes " a" ∷ codes "\t " ∷ [])
    ≡ [] ∷ codes "\t" ∷ codes " a" ∷ [])
    × (filter (is_end None) ([] ∷ lines_of (codes " \t\n>\n > \n< \n> a\n>>\n>a\na\n>  \n*")) ≡ [] ∷ lines_of (codes " \t\n>\n > \n< "))
unfolding begins_sign
ends = (refl, refl, refl, refl)

-- What curl prints: interim responses, a proxy's CONNECT, a progress bar, and times before the signs. Lines without a head's sign are
-- skipped, and its first empty signed text ends it.
signed_heads :
    (found false (codes "* a:\n> PUT / HTTP/2\r\n> B: c\r\n> \r\n< HTTP/2 100\r\n} [2 bytes]\n* d: e\n< HTTP/2 200\r\n< F: g\r\n< \r\n< h")
    ≡ codes "q PUT / HTTP/2|B: c|\ni HTTP/2 100|\nr HTTP/2 200|F: g|\n")
    × (found false (codes "> CONNECT a:1 HTTP/1.1\r\n> B: c\r\n> \r\n< HTTP/1.0 200 OK\r\n< \r\n* d\n> GET / HTTP/1.1\n> E: f\n> \n")
    ≡ codes "q CONNECT a:1 HTTP/1.1|B: c|\nr HTTP/1.0 200 OK|\nq GET / HTTP/1.1|E: f|\n")
    × (found false (codes "> GET / HTTP/2\n> \n\r  0 --:-- 0< HTTP/2 200 \r\n\r100 --:--\n< a: b\n")
    ≡ codes "q GET / HTTP/2|\nr HTTP/2 200 |a: b|\n")
    × (found false (codes "12:09:53.3 [0-0] > GET / HTTP/1.1\n12:09:53.3 [0-0] = a\n12:09:53.4 [0-0] > Accept: a/b\n")
    ≡ codes "q GET / HTTP/1.1|Accept: a/b|\n")
    × (found false (codes "\t> GET / HTTP/1.1\n\t> A: b\n\t>\n\t> C: d\n") ≡ codes "q GET / HTTP/1.1|A: b|\n")
unfolding begins_sign is_request_line is_token_byte is_version mark_of_fields
signed_heads = (refl, refl, refl, refl, refl)

-- What wget prints with -S and with -d, and bodies. A line that isn't indented as the head ends it; one of white space alone continues the
-- line before.
indented_heads :
    (found false (codes "--2026-- http://a/\n  HTTP/1.1 302 Found\n  A: b\nLocation: c\n  HTTP/1.1 200 OK\n  D: e\n   f\n g\n  h\n")
    ≡ codes "r HTTP/1.1 302 Found|A: b|\nr HTTP/1.1 200 OK|D: e| f|\n")
    × (found false (codes "---request begin---\nGET / HTTP/1.1\r\nA: b\r\n\r\n---request end---\nHTTP/1.1 200 OK\r\n\r\n200 OK\n")
    ≡ codes "q GET / HTTP/1.1|A: b|\nr HTTP/1.1 200 OK|\n")
    × (found false (codes "HTTP/1.1 200 OK\na:\n \nb: c\n\nHTTP/1.1 is older.\nHTTP/1.1 404 \n")
    ≡ codes "r HTTP/1.1 200 OK|a:| |b: c|\nr HTTP/1.1 404 |\n")
    × (found false (codes "* using HTTP/2\n*   Trying 127.0.0.1:1...\n* connect to 127.0.0.1 port 1 failed: refused\n") ≡ [])
unfolding begins_sign is_request_line is_token_byte is_version mark_of_fields
indented_heads = (refl, refl, refl, refl)

-- After a start line with a sign, one without a sign is part of a body. After pasted fields with a sign, or a start line without one, each
-- counts. A line that is a start line after its indentation has no sign.
bodies : (found false (codes "< HTTP/2 200\n< a: b\n<\nHTTP/1.1 404 No\nAccept: c\n< HTTP/2 201\n") ≡
    codes "r HTTP/2 200|a: b|\n! Accept: c\nr HTTP/2 201|\n")
    × (found false (codes "< HTTP/2 200\nHTTP/1.1 404 > GET / HTTP/1.1\n< b: c\n") ≡ codes "r HTTP/2 200|b: c|\n")
    × (found false (codes "> accept: a\n\nHTTP/1.1 200 OK\n> GET / HTTP/1.1\n")
    ≡ codes "f accept: a|\nr HTTP/1.1 200 OK|\nq GET / HTTP/1.1|\n")
    × (found false (codes "HTTP/1.1 200 a > GET / HTTP/1.1\nb: c\n") ≡ codes "r HTTP/1.1 200 a > GET / HTTP/1.1|b: c|\n")
unfolding begins_sign is_request_line is_token_byte is_version mark_of_fields
bodies = (refl, refl, refl, refl)

-- The mark of pasted fields is the empty indentation if one of the two fields has it, or that of the first one.
marks_of_fields : (map mark_of_fields (lines_of (codes " Accept: a\nAccept: b") ∷ lines_of (codes " a\n\tAccept: b\n> accept: c") ∷ [])
    ≡ Some [] ∷ Some (codes "\t") ∷ [])
    × (map mark_of_fields (lines_of (codes "a: b\nx< accept: c") ∷ lines_of (codes "a: b\nx accept: c") ∷ [])
    ≡ Some (codes "<") ∷ None ∷ [])
unfolding begins_sign mark_of_fields
marks_of_fields = (refl, refl)

-- Before the first start line, each block with one of the two fields is a head: a mail, lines that grep finds, fields that are indented. A
-- block without one isn't, and after a start line none is. A block with a status line behind other text, or a field with a status, is a
-- response.
pasted : (found false (codes "\n* a\nFrom: b\nCONTENT-TYPE: c/d\n \r\n\r\nx: y\n>\nAccept : e\n")
    ≡ codes "f * a|From: b|CONTENT-TYPE: c/d|\nf Accept : e|\n")
    × (found false (codes "> accept: a/b\n< Accept-Ranges: c\n> d: e\n> \n> accept: f\n") ≡ codes "f accept: a/b|d: e|\nf accept: f|\n")
    × (found false (codes " Accept: a\n b\nc\n\tContent-Type: d\n") ≡ codes "f Accept: a|b|\n! \tContent-Type: d\n")
    × (found false (codes " a\n Accept: b\nAccept: c\n") ≡ codes "f  a| Accept: b|Accept: c|\n")
    × (found false (codes "Accept: a\nHTTP/2 200\nb\n") ≡ codes "f Accept: a|\nr HTTP/2 200|b|\n")
    × (found false (codes "a\n1.2.3.4: HTTP/2 415\nAccept: b\n\nx GET / HTTP/2\nAccept: c\n\nHTTP/1 HTTP/2 200\nAccept: d\n")
    ≡ codes "r a|1.2.3.4: HTTP/2 415|Accept: b|\nf x GET / HTTP/2|Accept: c|\nf HTTP/1 HTTP/2 200|Accept: d|\n")
    × (found false (codes "Raw : HTTP/1.1 415 No\n  Accept: a\n  b\n\n* HTTP/2 200\n> Accept: c\n")
    ≡ codes "r Accept: a|b|\nr Accept: c|\n")
    × (found false (codes "Accept: a\nStatus: 200 OK\n\nResponse\n :STATUS:100\n Accept: b\n\nx status: 200\nStatus: 2000\nAccept: c\n")
    ≡ codes "r Accept: a|Status: 200 OK|\ni :STATUS:100|Accept: b|\nf x status: 200|Status: 2000|Accept: c|\n")
    × (found false (codes "HTTP/2 200\n\nAccept: a\n") ≡ codes "r HTTP/2 200|\n! Accept: a\n") × (found false (codes "From: b\n\na: b\n")
    ≡ [])
unfolding begins_sign is_request_line is_token_byte is_version mark_of_fields
pasted = (refl, refl, refl, refl, refl, refl, refl, refl, refl, refl)

-- A line in no head with one of the two fields in plain sight is found, in its place: before heads, skipped within one, the one that ends
-- it, and after it.
strays : (found false (codes "* Accept: a\n\n[accept: b]\n< HTTP/2 200\n* [accept: c]\n* Accept: d\n< b: c\n") ≡
    codes "! * Accept: a\nr HTTP/2 200|b: c|\n! * Accept: d\n")
    × (found false (codes "  HTTP/1.1 200 OK\nContent-Type: a/b\n") ≡ codes "r HTTP/1.1 200 OK|\n! Content-Type: a/b\n")
    × (found false (codes "> GET / HTTP/1.1\naccept: a >\n> accept: b\n") ≡ codes "q GET / HTTP/1.1|\n! accept: a >\n! > accept: b\n")
unfolding begins_sign is_request_line is_token_byte is_version mark_of_fields
strays = (refl, refl, refl)

-- In an input that is cut off, the last line doesn't count, nor a head that no line before it ends, with its strays.
cut_off :
    (map (found true) (codes "HTTP/2 200\n\n" ∷ codes "> GET / HTTP/2\n* accept: a\n* b" ∷ codes "Accept: a\nb" ∷ []) ≡ [] ∷ [] ∷ [] ∷ [])
    × (map (found true) (codes "HTTP/2 200\n\na" ∷ codes "HTTP/2 200\nHTTP/2 201\na" ∷ codes " HTTP/2 200\na\nb" ∷ [])
    ≡ codes "r HTTP/2 200|\n" ∷ codes "r HTTP/2 200|\n" ∷ codes "r HTTP/2 200|\n" ∷ [])
    × (found true (codes "Accept: a\n\nb") ≡ codes "f Accept: a|\n") × (found true (codes "* Accept: a\nb") ≡ codes "! * Accept: a\n")
    × (flat_map finding_text (findings_read (codes "HTTP/2 200\na: b")) ≡ codes "r HTTP/2 200|a: b|\n")
unfolding begins_sign is_request_line is_token_byte is_version mark_of_fields
cut_off = (refl, refl, refl, refl, refl)
