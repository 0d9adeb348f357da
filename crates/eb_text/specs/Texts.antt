-- The texts that the program shows.
use Rattle.std.specs.Prelude.{ℕ, List, [], ◌++◌, codes}
use Rattle.eb_io.specs.Text.{line}

-- what `--version` shows
abbrev pub version_text : List ℕ
version_text = line (codes "eb 0.1.0")

-- what `--help` shows
abbrev pub help_text : List ℕ
help_text =
    line (codes "eb answers captures of Etherbone streams on a Wishbone bus.")
    ++ line []
    ++ line (codes "  eb answer --ram N CAPTURE   answer the octets in the file CAPTURE on a RAM of")
    ++ line (codes "                              N octets, a multiple of 4 from 4 to 1048576")
    ++ line (codes "  eb answer DESC CAPTURE      answer them on the bus that the file DESC describes")
    ++ line (codes "  eb sim DESC SCRIPT          run the file SCRIPT on that bus clock by clock, and")
    ++ line (codes "                              show the journal")
    ++ line (codes "  eb sim DESC SCRIPT --wave   show the signals of each clock before it")
    ++ line (codes "  eb replay DESC CAPTURE..    answer each file CAPTURE as one master of that bus,")
    ++ line (codes "                              all of them at once, and show the replies and the")
    ++ line (codes "                              journal")
    ++ line (codes "  eb serve DESC PORT CONNECTIONS")
    ++ line (codes "                              serve so many connections at PORT for master 0 of")
    ++ line (codes "                              that bus, at the next port for master 1, and so on,")
    ++ line (codes "                              and show how they ended and the journal")
    ++ line (codes "  eb serve-udp DESC PORT DATAGRAMS")
    ++ line (codes "                              answer so many datagrams at PORT as master 0 of that")
    ++ line (codes "                              bus, and show how they ended and the journal")
    ++ line (codes "  eb build DESC               show the SDB tables of that bus")
    ++ line (codes "  eb tour DESC                show what discovery finds on that bus, read through a")
    ++ line (codes "                              host and a slave")
    ++ line (codes "  eb ls ADDRESS               show what discovery finds at ADDRESS, a host and a")
    ++ line (codes "                              port, as localhost:60368")
    ++ line (codes "  eb read ADDRESS WHERE       read the 32-bit word at WHERE there, or with")
    ++ line (codes "                              WHERE/1, /2, /4 or /8 one of as many octets")
    ++ line (codes "  eb write ADDRESS WHERE VALUE")
    ++ line (codes "                              write VALUE there")
    ++ line (codes "  eb load START N             answer N cycles, at most 100000, made from START,")
    ++ line (codes "                              which is below 2147483648, on a RAM of 65536 octets")
    ++ line (codes "  eb --help                   show this text")
    ++ line (codes "  eb --version                show the version")
    ++ line []
    ++ line (codes "Replies and texts go to standard output. The status is 0, or with a line on")
    ++ line (codes "standard error: 2 usage, 3 description refused, 4 read fault, 5 write fault,")
    ++ line (codes "6 malformed, 7 truncated, 8 door fault, 9 a reply of the peer refused, 10 bus")
    ++ line (codes "error, 11 walk refused, 12 too long, 13 no memory, 14 script refused. The")
    ++ line (codes "endings of a replay or a server stand in its output, and the first that is not")
    ++ line (codes "clean gives the status, without a line.")
