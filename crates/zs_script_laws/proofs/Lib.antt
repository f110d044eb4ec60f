mod Spoken
