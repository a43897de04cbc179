mod TakenOnce
